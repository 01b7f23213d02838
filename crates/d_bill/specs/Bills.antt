-- The bill of a tally, and which schedules are best.
use Rattle.std.specs.Prelude.{ℕ, ℤ, pos, ◌≤ℤ◌, ◌+ℤ◌, ◌-ℤ◌, List, Option, Some, None, length, slice_index_or, slice_get}
use Rattle.std.specs.Int.{int_max}
use Rattle.d_num.specs.Sums.{sum_of_first}
use Rattle.d_tier.specs.Charges.{tier_charge, peak_charge}
use Rattle.d_tier.specs.declared.peak.Peak.{Peak}
use Rattle.d_tariff.specs.declared.period.Period.{Period}
use Rattle.d_tariff.specs.Terms.{period_at}
use Rattle.d_bill.specs.Inputs.{Inputs}
use Rattle.d_bill.specs.Schedules.{IsFeasible}
use Rattle.d_bill.specs.Totals.{Tallied, tally_of, metered_tally}

-- what a period charges for its import of the month, by its tiers; a period that doesn't occur charges nothing
abbrev pub charge_in : Option Period → ℤ → ℤ
charge_in None total = pos 0
charge_in (Some period) total = tier_charge period.tiers total

-- the tier charge of a period in a tally: what its import of the month comes to by its marginal tiers
abbrev pub period_charge : Inputs → Tallied → ℕ → ℤ
period_charge i tally number = charge_in (period_at i.energy number) (slice_index_or tally.totals number (pos 0))

-- what a group charges for its highest demand; where there is no such group, nothing
abbrev pub demand_charge : Option Peak → ℤ → ℤ
demand_charge None power = pos 0
demand_charge (Some peak) power = peak_charge peak power

-- what a group charges in a tally: its highest demand, or its floor where that is greater, by its marginal tiers
abbrev pub group_charge : Inputs → Tallied → ℕ → ℤ
group_charge i tally group = demand_charge (slice_get i.peaks group) (slice_index_or tally.peaks group (pos 0))

-- what all groups charge
abbrev pub group_charges : Inputs → Tallied → ℤ
group_charges i tally = sum_of_first (length i.peaks) (group_charge i tally)

-- the fixed charge and what all periods and groups charge, less what is paid for the export
abbrev pub sum_of : Inputs → Tallied → ℤ
sum_of i tally = ((i.fixed +ℤ sum_of_first 36 (period_charge i tally)) -ℤ tally.credit) +ℤ group_charges i tally

-- raised to a minimum, where there is one
abbrev pub raised : Option ℤ → ℤ → ℤ
raised None sum = sum
raised (Some minimum) sum = int_max minimum sum

-- the bill of a tally in 10^-21 USD; without a minimum it may be below 0
abbrev pub bill_by : Inputs → Tallied → ℤ
bill_by i tally = raised i.minimum (sum_of i tally)

-- the bill of a schedule
abbrev pub bill_of : Inputs → List ℕ → ℤ
bill_of i s = bill_by i (tally_of i s)

-- the bill of the readings alone, which a battery is compared with
abbrev pub metered_bill : Inputs → ℤ
metered_bill i = bill_by i (metered_tally i)

-- a feasible schedule that no feasible schedule undercuts
pub record IsLeast (i : Inputs) (s : List ℕ) : Type 0 where
  pub feasible : IsFeasible i s
  pub least : (z : List ℕ) → IsFeasible i z → bill_of i s ≤ℤ bill_of i z

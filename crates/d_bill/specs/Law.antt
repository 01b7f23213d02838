-- What holds of all problems.
use Rattle.std.specs.Prelude.{◌≡◌, ℕ, ℤ, ◌+ℤ◌, List}
use Rattle.d_cal.specs.Calendar.{IsMonth}
use Rattle.d_tariff.specs.Terms.{Terms, IsTariff, HasTables, HasGrids}
use Rattle.d_meter.specs.Meters.{IsReadings}
use Rattle.d_batt.specs.Storage.{Storage, IsStorage}
use Rattle.d_bill.specs.Inputs.{Inputs, IsInRange}
use Rattle.d_meter.specs.Meters.{Metered}
use Rattle.d_bill.specs.Join.{join_of}
use Rattle.d_bill.specs.Totals.{tally_by}
use Rattle.d_bill.specs.Bills.{sum_of, group_charges}
use Rattle.d_bill.specs.Prices.{cost_of_flow, rate_gaps}
use Rattle.d_bill.specs.Slopes.{rates_of, tier_gaps}

-- what is joined of a valid tariff with tables and grids, the readings of a whole month, a battery and an earlier peak of at most 10^13 W
-- keeps what every problem keeps
abbrev pub JoinsInRange : Type 0
JoinsInRange = (terms : Terms) (metered : Metered) (storage : Storage) (prior : ℤ) → IsTariff terms → HasTables terms → HasGrids terms
    → IsMonth metered.year metered.number → IsReadings metered.year metered.number metered.minutes metered.net → IsStorage storage
    → IsInRange (join_of terms metered storage prior)

-- whatever the rates are, a bill's sum is the fixed charge and the groups' charges, and to that what the intervals cost at the rates
-- and by how much the periods' charges are more than that
abbrev pub IsPartedSum : Type 0
IsPartedSum = (i : Inputs) (rates : List ℤ) (flow : ℕ → ℤ) → IsInRange i
    → sum_of i (tally_by i flow) ≡ (i.fixed +ℤ group_charges i (tally_by i flow)) +ℤ (rate_gaps i rates (tally_by i flow) +ℤ cost_of_flow i rates flow)

-- the same with a slope for each tiered period: no other period's charge is more or less than its import at its price
abbrev pub IsPartedBySlopes : Type 0
IsPartedBySlopes = (i : Inputs) (slopes : List ℤ) (flow : ℕ → ℤ) → IsInRange i
    → sum_of i (tally_by i flow) ≡ (i.fixed +ℤ group_charges i (tally_by i flow)) +ℤ (tier_gaps i slopes (tally_by i flow) +ℤ cost_of_flow i (rates_of i slopes) flow)

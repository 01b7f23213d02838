-- The month's cost of energy where each energy period has one rate.
use Rattle.std.specs.Prelude.{ℕ, ℤ, pos, ◌-ℤ◌, ◌*ℤ◌, List, Option, Some, None, length, slice_index_or}
use Rattle.d_num.specs.Sums.{sum_of_first}
use Rattle.d_tier.specs.Tables.{price_at}
use Rattle.d_tariff.specs.declared.period.Period.{Period}
use Rattle.d_bill.specs.Inputs.{Inputs, period_in, sell_at}
use Rattle.d_bill.specs.Flows.{import_of, export_of}
use Rattle.d_bill.specs.Totals.{Tallied}
use Rattle.d_bill.specs.Bills.{period_charge}

-- the rate of a period, from a list of the rates of all periods by number
abbrev pub rate_of : List ℤ → ℕ → ℤ
rate_of rates number = slice_index_or rates number (pos 0)

-- what an interval costs: its import at the rate of its period, less its export at the sell rate
abbrev pub step_cost : Inputs → List ℤ → ℕ → ℤ → ℤ
step_cost i rates t flow = rate_of rates (period_in i t) *ℤ import_of flow -ℤ sell_at i t *ℤ export_of flow

-- what all intervals cost
abbrev pub cost_of_flow : Inputs → List ℤ → (ℕ → ℤ) → ℤ
cost_of_flow i rates flow = sum_of_first (length i.net) (λ t. step_cost i rates t (flow t))

-- by how much a period's charge is more than its import at the rate
abbrev pub rate_gap : Inputs → List ℤ → Tallied → ℕ → ℤ
rate_gap i rates tally number = period_charge i tally number -ℤ rate_of rates number *ℤ slice_index_or tally.totals number (pos 0)

-- the same of all periods together
abbrev pub rate_gaps : Inputs → List ℤ → Tallied → ℤ
rate_gaps i rates tally = sum_of_first 36 (rate_gap i rates tally)

-- the price of a period's first tier; 0 where the period doesn't occur
abbrev pub first_price : Option Period → ℤ
first_price None = pos 0
first_price (Some period) = price_at period.tiers 0

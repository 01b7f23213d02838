-- Slopes: one rate for each tiered period, in rising order of periods. All other periods have one price.
use Rattle.std.specs.Prelude.{ℕ, zero, suc, ℤ, pos, Bool, false, nat_lt, ◌+ℤ◌, List, [], ◌∷◌, ◌++◌, Option, Some, None, length, slice_index_or, if◌then◌else◌}
use Rattle.d_tariff.specs.declared.period.Period.{Period}
use Rattle.d_tariff.specs.Terms.{period_at}
use Rattle.d_bill.specs.Inputs.{Inputs}
use Rattle.d_bill.specs.Totals.{Tallied, values_of}
use Rattle.d_bill.specs.Prices.{rate_gap, first_price}

-- the numbers below n that pass a test, rising
unfoldable pub numbers_where : (ℕ → Bool) → ℕ → List ℕ
numbers_where test zero = []
numbers_where test (suc n) = if test n then numbers_where test n ++ n ∷ [] else numbers_where test n

-- the sum of f over a list
abbrev pub sum_over : List ℕ → (ℕ → ℤ) → ℤ
sum_over [] f = pos 0
sum_over (x ∷ xs) f = f x +ℤ sum_over xs f

-- a tiered period occurs and has two tiers or more
abbrev pub is_tiered : Option Period → Bool
is_tiered None = false
is_tiered (Some period) = nat_lt 1 (length period.tiers)

-- whether the period of that number is tiered
abbrev pub tiered_at : Inputs → ℕ → Bool
tiered_at i number = is_tiered (period_at i.energy number)

-- the tiered periods, rising
abbrev pub tiered : Inputs → List ℕ
tiered i = numbers_where (tiered_at i) 36

-- the rate of a period: of a tiered one its slope, which stands at the number of tiered periods below it; of any other its price
abbrev pub slope_rate : Inputs → List ℤ → ℕ → ℤ
slope_rate i slopes number =
    if tiered_at i number then slice_index_or slopes (length (numbers_where (tiered_at i) number)) (pos 0)
    else first_price (period_at i.energy number)

-- the rates of all periods
unfoldable pub rates_of : Inputs → List ℤ → List ℤ
rates_of i slopes = values_of 36 (slope_rate i slopes)

-- by how much the tiered periods' charges are more than their imports at the slopes
abbrev pub tier_gaps : Inputs → List ℤ → Tallied → ℤ
tier_gaps i slopes tally = sum_over (tiered i) (rate_gap i (rates_of i slopes) tally)

-- Totals are from 0 up, and a period of one tier charges at its price.
use Rattle.std.proofs.Common.{◌≡◌, ℕ, zero, suc, ℤ, pos, ◌≤◌, ◌==◌, ◌+ℤ◌, ◌-ℤ◌, ◌*ℤ◌, ◌≤ℤ◌, List, [], ◌∷◌, length, Option, Some, None, arith, refl, sym, ap, ◌∙◌, if◌then◌else◌, Bool, true, false}
use Rattle.std.proofs.Math.IntN.{zero-*ℤ}
use Rattle.std.specs.Int.{int_min}
use Rattle.std.specs.Option.{ForSome}
use Rattle.std.proofs.lemmas.Int.{ints, clamps}
use Rattle.d_num.specs.Sums.{sum_of_first}
use Rattle.d_tier.specs.declared.tier.Tier.{Tier}
use Rattle.d_tier.specs.Tables.{AreTiersFrom, price_at}
use Rattle.d_tier.specs.Charges.{tier_charge}
use Rattle.d_tariff.specs.declared.period.Period.{Period}
use Rattle.d_bill.specs.Inputs.{Inputs, HasPrices, period_in}
use Rattle.d_bill.specs.Flows.{import_of}
use Rattle.d_bill.specs.Totals.{import_to}
use Rattle.d_bill.specs.Bills.{charge_in}
use Rattle.d_bill.specs.Prices.{first_price}

-- no sum of numbers from 0 up is below 0
pub sum_low : (n : ℕ) (f : ℕ → ℤ) → ((k : ℕ) → pos 0 ≤ℤ f k) → pos 0 ≤ℤ sum_of_first n f
unfolding sum_of_first
sum_low zero f low = omega (arith, ints)
sum_low (suc n) f low = omega (arith, ints, sum_low n f low, low n)

-- no total is below 0
pub import_low : (i : Inputs) (flow : ℕ → ℤ) (n p : ℕ) → pos 0 ≤ℤ import_to i flow n p
import_low i flow n p = sum_low n (λ t. if period_in i t == p then import_of (flow t) else pos 0) (λ t. low (period_in i t == p) (flow t))
  where
    low : (b : Bool) (z : ℤ) → pos 0 ≤ℤ (if b then import_of z else pos 0)
    low true z = omega (arith, ints, clamps)
    low false z = omega (arith, ints)

-- one tier charges its price
one_tier : (ts : List Tier) (x : ℤ) → AreTiersFrom (pos 0) ts → length ts ≤ 1 → pos 0 ≤ℤ x → tier_charge ts x ≡ price_at ts 0 *ℤ x
one_tier [] x h few low = absurd h
one_tier (t ∷ []) x h few low = rw h (whole t.price x low)
  where
    none : (z : ℤ) → z +ℤ pos 0 ≡ z
    none z = omega (arith, ints)

    part : (x : ℤ) → pos 0 ≤ℤ x → x -ℤ int_min x (pos 0) ≡ x
    part x low = omega (arith, ints, clamps)

    whole : (price x : ℤ) → pos 0 ≤ℤ x → price *ℤ (x -ℤ int_min x (pos 0)) +ℤ pos 0 ≡ price *ℤ x
    whole price x low = none (price *ℤ (x -ℤ int_min x (pos 0))) ∙ ap (λ (z : ℤ). price *ℤ z) (part x low)
one_tier (t ∷ u ∷ ts) x h few low = absurd (omega arith)

-- a period of one tier, or none, charges at its first price
pub no_gap : (o : Option Period) (x : ℤ) → ForSome o HasPrices → ForSome o (λ period. length period.tiers ≤ 1) → pos 0 ≤ℤ x → charge_in o x ≡ first_price o *ℤ x
no_gap None x prices few low = sym (zero-*ℤ x)
no_gap (Some period) x prices few low = one_tier period.tiers x (prices period refl).table.whole (few period refl) low

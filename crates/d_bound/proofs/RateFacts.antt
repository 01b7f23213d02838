-- How large rates are.
use Rattle.std.proofs.Common.{◌≡◌, ℕ, zero, suc, ℤ, pos, ◌+◌, ◌*◌, ◌^◌, ◌<◌, ◌++◌, List, [], ◌∷◌, Option, Some, None, length, map, All, refl, sym, ap, ◌∙◌, subst, arith, slice_index_or, Bool, true, false, if◌then◌else◌}
use Rattle.std.specs.List.{range_with_len}
use Rattle.std.specs.Option.{ForSome}
use Rattle.std.proofs.Math.Path.{ap₂}
use Rattle.std.proofs.lemmas.Int.{ints}
use Rattle.std.proofs.lemmas.List.FromFn.{length-map-range_with_len, get_or-map-range_with_len, map-range_with_len_more}
use Rattle.d_num.specs.Amount.{IsWithin}
use Rattle.d_tariff.specs.declared.period.Period.{Period}
use Rattle.d_tariff.specs.Terms.{period_at}
use Rattle.d_bill.specs.Inputs.{Inputs, IsInRange, HasPrices, sell_of}
use Rattle.d_tier.specs.declared.tier.Tier.{Tier}
use Rattle.d_tier.specs.Tables.{price_at}
use Rattle.d_bill.specs.Prices.{rate_of, first_price}
use Rattle.d_bill.specs.Slopes.{tiered_at, numbers_where, slope_rate, rates_of}
use Rattle.d_bill.specs.Totals.{values_of}
use Rattle.d_bound.specs.Fair.{HasFairPrices, IsFair}
use Rattle.d_bound.specs.PlanWays.{AreRates}

-- 0 is within every size
nothing : (most : ℕ) → IsWithin most (pos 0)
nothing most = (omega (arith, ints), omega (arith, ints))

-- a rate that is there or not
pub rate_within : (rates : List ℤ) (number : ℕ) → AreRates rates → IsWithin (3 * 10 ^ 21) (rate_of rates number)
rate_within [] number fair = nothing (3 * 10 ^ 21)
rate_within (rate ∷ rest) zero fair = fair 0 (pos 0) (omega arith)
rate_within (rate ∷ rest) (suc number) fair = rate_within rest number (λ k d below. fair (suc k) d (omega arith))

-- an entry that is there or not
entry_of : (energy : List (Option Period)) (number : ℕ) → All (λ period. ForSome period HasFairPrices) energy → ForSome (period_at energy number) HasFairPrices
entry_of [] number fair = λ period none. absurd (cc)
entry_of (period ∷ rest) zero fair = fair 0 None (omega arith)
entry_of (period ∷ rest) (suc number) fair = entry_of rest number (λ k d below. fair (suc k) d (omega arith))

-- what is paid for a Wh of export
pub sell_within : (i : Inputs) (number : ℕ) → IsFair i → IsWithin (3 * 10 ^ 21) (sell_of i.energy number)
sell_within i number fine = by_entry i.energy number (period_at i.energy number) refl (entry_of i.energy number fine.energy)
  where
    by_entry : (energy : List (Option Period)) (number : ℕ) (found : Option Period) → period_at energy number ≡ found → ForSome (period_at energy number) HasFairPrices
        → IsWithin (3 * 10 ^ 21) (sell_of energy number)
    by_entry energy number None e fair = rw e (nothing (3 * 10 ^ 21))
    by_entry energy number (Some period) e fair = rw e (fair period e).sell

-- the price of a period's first tier
price_within : (period : Period) → HasFairPrices period → IsWithin (3 * 10 ^ 21) (price_at period.tiers 0)
price_within period fair = by_tiers period.tiers fair.tiers
  where
    by_tiers : (tiers : List Tier) → All (λ tier. IsWithin (3 * 10 ^ 21) tier.price) tiers → IsWithin (3 * 10 ^ 21) (price_at tiers 0)
    by_tiers [] fair = nothing (3 * 10 ^ 21)
    by_tiers (tier ∷ rest) fair = fair 0 tier (omega arith)

-- the rate of a period where no slopes are given
slope_within : (i : Inputs) (number : ℕ) → IsFair i → IsWithin (3 * 10 ^ 21) (slope_rate i [] number)
slope_within i number fine = by_test (tiered_at i number) (length (numbers_where (tiered_at i) number)) (first_price (period_at i.energy number))
    (by_entry (period_at i.energy number) (entry_of i.energy number fine.energy))
  where
    by_entry : (found : Option Period) → ForSome found HasFairPrices → IsWithin (3 * 10 ^ 21) (first_price found)
    by_entry None fair = nothing (3 * 10 ^ 21)
    by_entry (Some period) fair = price_within period (fair period refl)

    by_test : (test : Bool) (place : ℕ) (price : ℤ) → IsWithin (3 * 10 ^ 21) price → IsWithin (3 * 10 ^ 21) (if test then slice_index_or [] place (pos 0) else price)
    by_test true place price small = nothing (3 * 10 ^ 21)
    by_test false place price small = small

-- one more rate
pub rates_more : (i : Inputs) (number : ℕ) (rates new : List ℤ) (rate : ℤ) → rates ≡ map (slope_rate i []) (range_with_len 0 number) → rate ≡ slope_rate i [] number
    → new ≡ rates ++ rate ∷ [] → new ≡ map (slope_rate i []) (range_with_len 0 (number + 1))
rates_more i number rates new rate so_far here push =
    push ∙ ap₂ (λ (list : List ℤ) (last : ℤ). list ++ last ∷ []) so_far here ∙ sym (map-range_with_len_more (slope_rate i []) 0 number number (omega arith))

-- all rates
pub rates_all : (i : Inputs) (number : ℕ) → number ≡ 36 → map (slope_rate i []) (range_with_len 0 number) ≡ rates_of i []
unfolding rates_of values_of
rates_all i number whole = ap (λ (n : ℕ). map (slope_rate i []) (range_with_len 0 n)) whole

-- there is one for each period
pub rates_long : (i : Inputs) → length (rates_of i []) ≡ 36
unfolding rates_of values_of
rates_long i = length-map-range_with_len (slope_rate i []) 0 36

-- and each is in range
pub rates_fair : (i : Inputs) → IsFair i → AreRates (rates_of i [])
unfolding rates_of values_of
rates_fair i fine = λ number d below.
    let there : number < 36 = omega (arith, length-map-range_with_len (slope_rate i []) 0 36) in
    subst (λ (z : ℤ). IsWithin (3 * 10 ^ 21) z) (sym (get_or-map-range_with_len (slope_rate i []) 0 36 number number d there (omega arith))) (slope_within i number fine)

-- what a problem keeps is fair
pub fair_of : (i : Inputs) → IsInRange i → IsFair i
fair_of i fine = record {
  few_intervals = fine.few_intervals;
  energy = λ number d below. fair_entry (slice_index_or i.energy number d) (fine.energy number d below);
  storage = fine.storage;
}
  where
    fair_entry : (found : Option Period) → ForSome found HasPrices → ForSome found HasFairPrices
    fair_entry found fair = λ period there. let keeps = fair period there in record { tiers = keeps.tiers; sell = keeps.sell }

-- Slopes of tiered periods alone: periods of one tier have no gap.
use Rattle.std.proofs.Common.{◌≡◌, ℕ, zero, suc, ℤ, pos, ◌<◌, ◌≤◌, ◌+ℤ◌, ◌-ℤ◌, ◌*ℤ◌, ◌≤ℤ◌, List, [], ◌∷◌, ◌++◌, length, Option, Some, None, arith, refl, sym, ap, subst, ◌∙◌, if◌then◌else◌, slice_index_or, Bool, true, false, nat_lt}
use Rattle.std.specs.Option.{ForSome}
use Rattle.std.proofs.lemmas.Int.{ints}
use Rattle.std.proofs.lemmas.Bool.Decides.{nat_tests}
use Rattle.d_num.specs.Sums.{sum_of_first}
use Rattle.d_tariff.specs.declared.period.Period.{Period}
use Rattle.d_bill.specs.Inputs.{Inputs, IsInRange}
use Rattle.d_bill.specs.Totals.{import_to, tally_by}
use Rattle.d_bill.specs.Bills.{charge_in, group_charges}
use Rattle.d_bill.specs.Prices.{rate_of, rate_gap, first_price, cost_of_flow}
use Rattle.d_bill.specs.Slopes.{numbers_where, sum_over, is_tiered, tiered_at, slope_rate, rates_of}
use Rattle.d_bill.specs.Law.{IsPartedBySlopes}
use Rattle.d_bill.proofs.Values.{values_read}
use Rattle.d_bill.proofs.PartFacts.{parted_sum}
use Rattle.d_bill.proofs.TierFacts.{no_gap, import_low}

-- one more number at the end of a list
sum_over-snoc : (xs : List ℕ) (n : ℕ) (f : ℕ → ℤ) → sum_over (xs ++ n ∷ []) f ≡ sum_over xs f +ℤ f n
sum_over-snoc [] n f = swap (f n)
  where
    swap : (a : ℤ) → a +ℤ pos 0 ≡ pos 0 +ℤ a
    swap a = omega (arith, ints)
sum_over-snoc (x ∷ xs) n f = ap (λ (z : ℤ). f x +ℤ z) (sum_over-snoc xs n f) ∙ regroup (f x) (sum_over xs f) (f n)
  where
    regroup : (a b c : ℤ) → a +ℤ (b +ℤ c) ≡ (a +ℤ b) +ℤ c
    regroup a b c = omega (arith, ints)

-- a sum in which only numbers that pass a test count
pub sum_picked : (n : ℕ) (b : ℕ → Bool) (f : ℕ → ℤ) → ((p : ℕ) → p < n → b p ≡ false → f p ≡ pos 0) → sum_of_first n f ≡ sum_over (numbers_where b n) f
unfolding sum_of_first numbers_where
sum_picked zero b f others = refl
sum_picked (suc n) b f others = by_test (b n) refl (sum_picked n b f (λ p below e. others p (omega arith) e))
  where
    none : (a b c : ℤ) → a ≡ b → c ≡ pos 0 → a +ℤ c ≡ b
    none a b c e f = omega (arith, ints)

    by_test : (t : Bool) → b n ≡ t → sum_of_first n f ≡ sum_over (numbers_where b n) f → sum_of_first n f +ℤ f n ≡ sum_over (if b n then numbers_where b n ++ n ∷ [] else numbers_where b n) f
    by_test true e before = rw e (ap (λ (z : ℤ). z +ℤ f n) before ∙ sym (sum_over-snoc (numbers_where b n) n f))
    by_test false e before = rw e (none (sum_of_first n f) (sum_over (numbers_where b n) f) (f n) before (others n (omega arith) e))

-- the rates in their places
rates_read : (i : Inputs) (slopes : List ℤ) (p : ℕ) → p < 36 → rate_of (rates_of i slopes) p ≡ slope_rate i slopes p
unfolding rates_of
rates_read i slopes p below = values_read 36 (slope_rate i slopes) p (pos 0) below

-- an untiered period has no gap
untiered_gap : (i : Inputs) (slopes : List ℤ) (flow : ℕ → ℤ) → IsInRange i → (p : ℕ) → p < 36 → tiered_at i p ≡ false → rate_gap i (rates_of i slopes) (tally_by i flow) p ≡ pos 0
untiered_gap i slopes flow fine p below plain =
    let inside : p < length i.energy = omega (arith, fine.entries) in
    let o = slice_index_or i.energy p None in
    let x = slice_index_or (tally_by i flow).totals p (pos 0) in
    let low : pos 0 ≤ℤ x = rw (values_read 36 (import_to i flow (length i.net)) p (pos 0) below) (import_low i flow (length i.net) p) in
    let rate : rate_of (rates_of i slopes) p ≡ first_price o = rates_read i slopes p below ∙ price (tiered_at i p) plain in
    none (charge_in o x) (rate_of (rates_of i slopes) p) (first_price o) x (no_gap o x (fine.energy p None inside) (one o plain) low) rate
  where
    price : (t : Bool) → t ≡ false → (if t then slice_index_or slopes (length (numbers_where (tiered_at i) p)) (pos 0) else first_price (slice_index_or i.energy p None)) ≡ first_price (slice_index_or i.energy p None)
    price t e = rw e refl

    few : (n : ℕ) → nat_lt 1 n ≡ false → n ≤ 1
    few n e = grind (arith, nat_tests)

    one : (o : Option Period) → is_tiered o ≡ false → ForSome o (λ period. length period.tiers ≤ 1)
    one None e = λ period none. absurd (never period none)
      where
        never : (period : Period) → ◌≡◌ {A = Option Period} None (Some period) → ⊥
        never period none = cc
    one (Some period) e = λ other same. subst (λ (o : Option Period). ForSome o (λ q. length q.tiers ≤ 1)) same (λ q here. known q here) other refl
      where
        known : (q : Period) → ◌≡◌ {A = Option Period} (Some period) (Some q) → length q.tiers ≤ 1
        known q here = let is : period ≡ q = cc in subst (λ (r : Period). length r.tiers ≤ 1) is (few (length period.tiers) e)

    none : (charge rate first x : ℤ) → charge ≡ first *ℤ x → rate ≡ first → charge -ℤ rate *ℤ x ≡ pos 0
    none charge rate first x e f = let same : rate *ℤ x ≡ first *ℤ x = ap (λ (z : ℤ). z *ℤ x) f in omega (arith, ints)

-- a bill's sum in parts, with slopes for the tiered periods alone
pub parted_by_slopes : IsPartedBySlopes
parted_by_slopes i slopes flow fine =
    parted_sum i (rates_of i slopes) flow fine
    ∙ ap (λ (z : ℤ). (i.fixed +ℤ group_charges i (tally_by i flow)) +ℤ (z +ℤ cost_of_flow i (rates_of i slopes) flow))
    (sum_picked 36 (tiered_at i) (rate_gap i (rates_of i slopes) (tally_by i flow)) (untiered_gap i slopes flow fine))

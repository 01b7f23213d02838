-- How large the charges of a month are.
use Rattle.std.proofs.Common.{◌≡◌, ℕ, ℤ, pos, negsuc, ◌+◌, ◌*◌, ◌^◌, ◌<◌, ◌≤◌, ◌+ℤ◌, ◌≤ℤ◌, length, All, get_or, Some, arith, refl, sym, ap₂, subst, below_more, ◌∙◌, if◌then◌else◌, slice_index_or, Bool, true, false, nat_lt}
use Rattle.std.specs.Prelude.{slice_get, unsigned_abs}
use Rattle.std.proofs.lemmas.Int.{ints}
use Rattle.std.proofs.lemmas.Bool.Decides.{nat_tests}
use Rattle.std.proofs.lemmas.Option.{get_or_from_slice_get}
use Rattle.d_num.specs.Amount.{IsWithin, IsUpTo, IsWatt}
use Rattle.d_num.specs.Sums.{sum_of_first}
use Rattle.d_num.proofs.Sums.{sum_more, sum_none, sum_within}
use Rattle.d_tier.specs.declared.peak.Peak.{Peak}
use Rattle.d_bill.specs.Inputs.{Inputs, IsInRange, HasPeakPrices}
use Rattle.d_bill.specs.Totals.{Tallied, IsTallied}
use Rattle.d_bill.specs.Counting.{total_limit, group_limit}
use Rattle.d_bill.proofs.SizeFacts.{month_total}

-- what is from 0 up is at most its size
pub up_to_abs : (x : ℤ) → pos 0 ≤ℤ x → IsUpTo (unsigned_abs x) x
up_to_abs (pos n) low = (omega (arith, ints), omega (arith, ints))
up_to_abs (negsuc n) low = absurd (omega (arith, ints))

-- a sum of charges so far, each within a limit of its own
pub record IsChargedTo (n : ℕ) (charge : ℕ → ℤ) (limit : ℕ → ℕ) (sum : ℤ) : Type 0 where
  pub is : sum ≡ sum_of_first n charge
  pub small : (k : ℕ) → k < n → IsWithin (limit k) (charge k)

pub charged_none : (charge : ℕ → ℤ) (limit : ℕ → ℕ) → IsChargedTo 0 charge limit (pos 0)
charged_none charge limit = record { is = sym (sum_none charge); small = λ k below. absurd (omega arith) }

pub charged_more : (n : ℕ) (charge : ℕ → ℤ) (limit : ℕ → ℕ) (sum next new : ℤ) → IsChargedTo n charge limit sum → next ≡ charge n → IsWithin (limit n) next → new ≡ sum +ℤ next → IsChargedTo (n + 1) charge limit new
charged_more n charge limit sum next new before here small e = record {
  is = e ∙ ap₂ ◌+ℤ◌ before.is here ∙ sym (sum_more n charge);
  small = below_more _ _ before.small (subst (IsWithin (limit n)) here small);
}

-- the sum and one charge more are money, where each is at most 6 * 10^34 in size
pub charged_fits : (n : ℕ) (charge : ℕ → ℤ) (limit : ℕ → ℕ) (sum next : ℤ) → n ≤ 37 → IsChargedTo n charge limit sum → IsWithin (limit n) next → ((k : ℕ) → k ≤ n → limit k ≤ 6 * 10 ^ 34) → IsWithin (10 ^ 37) (sum +ℤ next)
charged_fits n charge limit sum next few before small bound =
    let old = sum_within (6 * 10 ^ 34) n charge (λ k below. wider (limit k) (charge k) (before.small k below) (bound k (omega arith))) in
    let last = wider (limit n) next small (bound n (omega arith)) in
    fits n sum (sum_of_first n charge) next few before.is old last
  where
    wider : (m : ℕ) (x : ℤ) → IsWithin m x → m ≤ 6 * 10 ^ 34 → IsWithin (6 * 10 ^ 34) x
    wider m x h low = (omega (arith, ints, h.0), omega (arith, ints, h.1))

    fits : (n : ℕ) (sum total next : ℤ) → n ≤ 37 → sum ≡ total → IsWithin (6 * 10 ^ 34 * n) total → IsWithin (6 * 10 ^ 34) next → IsWithin (10 ^ 37) (sum +ℤ next)
    fits n sum total next few e a b = (omega (arith, ints, a.0, b.0), omega (arith, ints, a.1, b.1))

-- a period's limit
pub total_limit_small : (i : Inputs) (p : ℕ) (x : Tallied) → IsInRange i → p < 36 → IsTallied i x → total_limit x p ≤ 6 * 10 ^ 34
total_limit_small i p x fine below tallied = by_total (slice_index_or x.totals p (pos 0)) (month_total i p x fine below tallied)
  where
    by_total : (z : ℤ) → IsUpTo (2 * 10 ^ 13) z → 3 * 10 ^ 21 * unsigned_abs z ≤ 6 * 10 ^ 34
    by_total (pos n) h = let high = h.1 in omega (arith, ints)
    by_total (negsuc n) h = absurd (let low = h.0 in omega (arith, ints))

-- a group's limit
pub group_limit_small : (i : Inputs) (g : ℕ) → group_limit i g ≤ 6 * 10 ^ 34
group_limit_small i g = by_test (nat_lt g (length i.demand_groups))
  where
    by_test : (b : Bool) → (if b then 24 * 10 ^ 30 else 3 * 10 ^ 34) ≤ 6 * 10 ^ 34
    by_test true = omega arith
    by_test false = omega arith

-- what a group charges keeps its limit
pub group_small : (i : Inputs) (g : ℕ) (peak : Peak) (power charge : ℤ) → IsInRange i → g < length i.peaks → slice_get i.peaks g ≡ Some peak → IsUpTo (8 * 10 ^ 9) power → IsWatt peak.floor
    → ((m n : ℕ) → All (λ tier. IsWithin m tier.price) peak.tiers → IsUpTo n power → IsUpTo n peak.floor → IsWithin (m * n) charge) → IsWithin (group_limit i g) charge
group_small i g peak power charge fine there is small floor size = by_test (nat_lt g (length i.demand_groups)) refl
  where
    prices : All (λ tier. IsWithin (3 * 10 ^ 21) tier.price) peak.tiers
    prices k d below =
        let stands : HasPeakPrices (get_or i.peaks g peak) = fine.groups g peak there in
        let here : HasPeakPrices peak = rw (get_or_from_slice_get i.peaks g peak peak is) at stands in
        let price = here.tiers k d below in
        (omega (arith, ints, price.0), price.1)

    below_is : (g n : ℕ) → nat_lt g n ≡ true → g < n
    below_is g n e = grind (arith, nat_tests)

    no_floor : (z : ℤ) → z ≡ pos 0 → IsUpTo (8 * 10 ^ 9) z
    no_floor z e = (omega (arith, ints, e), omega (arith, ints, e))

    by_test : (b : Bool) → nat_lt g (length i.demand_groups) ≡ b → IsWithin (group_limit i g) charge
    by_test true e = rw e (size (3 * 10 ^ 21) (8 * 10 ^ 9) prices small (no_floor peak.floor (fine.floors g (below_is g (length i.demand_groups) e) peak is)))
    by_test false e = rw e (size (3 * 10 ^ 21) (10 ^ 13) prices (small.0, omega (arith, ints, small.1)) floor)

-- a problem has at most 37 groups
pub few_groups : (i : Inputs) (g : ℕ) → IsInRange i → g < length i.peaks → g < 37
few_groups i g fine there = let few = fine.few_demand_groups in let flat = fine.flat_group in omega arith

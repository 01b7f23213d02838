-- A schedule keeps the caps of a box exactly where each of its powers is within those of its interval.
use Rattle.std.proofs.Common.{◌≡◌, inl, inr, ℕ, zero, suc, ℤ, ◌<◌, ◌≤ℤ◌, Bool, true, false, not, ◌||◌, ◌&&◌, List, length, refl, arith, int_le, nat_lt, slice_index, slice_get}
use Rattle.std.proofs.lemmas.Int.{ints}
use Rattle.std.proofs.lemmas.Bool.Decides.{nat_tests}
use Rattle.d_box.specs.declared.space.Space.{Space}
use Rattle.d_box.specs.Boxes.{range_at}
use Rattle.d_bill.specs.Inputs.{Inputs, is_held, is_in_group}
use Rattle.d_bound.specs.PlanWays.{power_at, DrawsAllowed}
use Rattle.d_bound.specs.Caps.{all_below, is_under, is_capped, KeepsCaps}
use Rattle.d_bound.proofs.SumFacts.{last_or}

-- where all numbers pass, each does
passes_each : (n : ℕ) (test : ℕ → Bool) → all_below n test ≡ true → (k : ℕ) → k < n → test k ≡ true
unfolding all_below
passes_each zero test all k below = absurd (omega arith)
passes_each (suc n) test all k below = elim (last_or k n below) [
  | inl same ↦ rw same (second (all_below n test) (test n) all)
  | inr less ↦ passes_each n test (first (all_below n test) (test n) all) k less
]
  where
    first : (one two : Bool) → (one && two) ≡ true → one ≡ true
    first true two e = refl
    first false two e = e

    second : (one two : Bool) → (one && two) ≡ true → two ≡ true
    second true two e = e
    second false two e = absurd (cc)

-- where each passes, all do
passes_all : (n : ℕ) (test : ℕ → Bool) → ((k : ℕ) → k < n → test k ≡ true) → all_below n test ≡ true
unfolding all_below
passes_all zero test each = refl
passes_all (suc n) test each = rw (passes_all n test (λ k below. each k (omega arith))) (each n (omega arith))

-- a group that holds an interval is there
pub group_there : (i : Inputs) (t group : ℕ) → is_in_group i t group ≡ true → group < length i.peaks
group_there i t group held = by_tests group (length i.peaks) (is_held (slice_get i.demand_groups group) (slice_index i.demands t)) held
  where
    by_tests : (k n : ℕ) (other : Bool) → (nat_lt k n && other) ≡ true → k < n
    by_tests k n other e = grind (arith, nat_tests)

-- a power within the caps of an interval is at most the high end of each group that holds it
under_high : (held : Bool) (power high : ℤ) → (not held || int_le power high) ≡ true → held ≡ true → power ≤ℤ high
under_high true power high under e = grind (arith, ints)
under_high false power high under e = absurd (cc)

-- and the other way round
is_under_high : (held : Bool) (power high : ℤ) → (held ≡ true → power ≤ℤ high) → (not held || int_le power high) ≡ true
is_under_high true power high keeps = test power high (keeps refl)
  where
    test : (x y : ℤ) → x ≤ℤ y → int_le x y ≡ true
    test x y h = grind (arith, ints)
is_under_high false power high keeps = refl

-- what keeps the caps draws what is allowed
pub caps_draw : (i : Inputs) (space : Space) (s : List ℕ) → KeepsCaps i space s → DrawsAllowed i (is_capped i space) s
caps_draw i space s keeps t inside =
    passes_all (length i.peaks) (is_under i space t (power_at i s t))
    (λ group below. is_under_high (is_in_group i t group) (power_at i s t) (range_at space.peaks group).high (λ held. keeps t group inside held))

-- what draws what is allowed keeps the caps
pub draws_cap : (i : Inputs) (space : Space) (s : List ℕ) → DrawsAllowed i (is_capped i space) s → KeepsCaps i space s
draws_cap i space s draws t group inside held =
    under_high (is_in_group i t group) (power_at i s t) (range_at space.peaks group).high
    (passes_each (length i.peaks) (is_under i space t (power_at i s t)) (draws t inside) group (group_there i t group held)) held

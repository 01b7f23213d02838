-- The first number that passes a test.
use Rattle.std.proofs.Common.{◌≡◌, ℕ, zero, suc, ◌+◌, ◌<◌, ◌≤◌, Bool, true, false, None, Some, refl, ap, arith, inl, inr}
use Rattle.std.proofs.lemmas.Bool.{cases_eq}
use Rattle.std.specs.List.{find, range_with_len}

-- where none before it passes
pub first_at : (test : ℕ → Bool) (from count at : ℕ) → from ≤ at → at < from + count → ((k : ℕ) → from ≤ k → k < at → test k ≡ false) → test at ≡ true
    → find test (range_with_len from count) ≡ Some at
first_at test from zero at low high before here = absurd (omega (arith, low, high))
first_at test from (suc count) at low high before here = elim (cases_eq from at) [
  | inl is ↦ let passes : test from ≡ true = rw is here in rw passes (ap (λ k. Some k) is)
  | inr other ↦
      let fails : test from ≡ false = before from (omega arith) (omega (arith, low, other)) in
      rw fails (first_at test (from + 1) count at (omega (arith, low, other)) (omega (arith, high)) (λ k l h. before k (omega (arith, l)) h) here)
]

-- where none passes
pub first_nowhere : (test : ℕ → Bool) (from count : ℕ) → ((k : ℕ) → from ≤ k → k < from + count → test k ≡ false) → find test (range_with_len from count) ≡ None
first_nowhere test from zero none = refl
first_nowhere test from (suc count) none =
    let fails : test from ≡ false = none from (omega arith) (omega arith) in
    rw fails (first_nowhere test (from + 1) count (λ k l h. none k (omega (arith, l)) (omega (arith, h))))

-- none passes up to one more
pub none_further : (test : ℕ → Bool) (next : ℕ) → ((k : ℕ) → k < next → test k ≡ false) → test next ≡ false → (k : ℕ) → k < next + 1 → test k ≡ false
none_further test next before here k below = elim (cases_eq k next) [ inl is ↦ rw is here | inr other ↦ before k (omega (arith, below, other)) ]

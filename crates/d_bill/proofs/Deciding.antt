-- What can be decided over plain values: that it holds, or that it doesn't.
use Rattle.std.proofs.Common.{◌≡◌, ◌⊎◌, inl, inr, ℕ, suc, ◌<◌, ◌≤◌, Bool, true, false, ◌==◌, ltb, ℤ, pos, negsuc, ◌≤ℤ◌, List, Decides, bytes_eq, refl, sym, arith, true≢false}
use Rattle.std.proofs.lemmas.Bool.Decides.{Decides-eqb, Decides-ltb, Decides-int_eq}
use Rattle.std.proofs.lemmas.Slice.Eq.{bytes_eq-Decides, slice_eq-Decides}
use Rattle.std.specs.Cmp.Lexicographic.{pointwise}
use Rattle.std.proofs.lemmas.Int.{ints}

-- it holds, or it does not
pub data Decided (P : Type 0) : Type 0 where
  holds : P → Decided P
  fails : (P → ⊥) → Decided P

-- by a test
pub by_test : {P : Type 0} (r : Bool) → Decides r P → Decided P
by_test true d = holds (d.0 refl)
by_test false d = fails (λ p. true≢false (sym (d.1 p)))

-- both of two
pub both : {P Q : Type 0} → Decided P → Decided Q → Decided (P × Q)
both (holds p) (holds q) = holds (p, q)
both (holds p) (fails none) = fails (λ h. none h.1)
both (fails none) d = fails (λ h. none h.0)

-- one of two
pub one_of : {P Q : Type 0} → Decided P → Decided Q → Decided (P ⊎ Q)
one_of (holds p) d = holds (inl p)
one_of (fails none) (holds q) = holds (inr q)
one_of {P} {Q} (fails none) (fails other) = fails neither
  where
    neither : P ⊎ Q → ⊥
    neither (inl p) = none p
    neither (inr q) = other q

-- the same in other words
pub restated : {P Q : Type 0} → (P → Q) → (Q → P) → Decided P → Decided Q
restated there back (holds p) = holds (there p)
restated there back (fails none) = fails (λ q. none (back q))

-- numbers
pub same_number : (x y : ℕ) → Decided (x ≡ y)
same_number x y = by_test (x == y) (Decides-eqb x y)

-- texts
pub same_text : (xs ys : List ℕ) → Decided (xs ≡ ys)
same_text xs ys = by_test (bytes_eq xs ys) (bytes_eq-Decides xs ys)

-- rows of texts
pub same_cells : (xs ys : List (List ℕ)) → Decided (xs ≡ ys)
same_cells xs ys = by_test (pointwise bytes_eq xs ys) (slice_eq-Decides bytes_eq-Decides xs ys (pointwise bytes_eq xs ys) refl)

-- one is below another
pub is_below : (x y : ℕ) → Decided (x < y)
is_below x y = by_test (ltb x y) (Decides-ltb x y)

-- one is at most another
pub at_most : (x y : ℕ) → Decided (x ≤ y)
at_most x y = restated (λ lt. omega arith) (λ le. omega arith) (is_below x (suc y))

-- integers
pub same_integer : (x y : ℤ) → Decided (x ≡ y)
same_integer x y = by_test _ (Decides-int_eq x y)

-- one is at most another
pub integer_at_most : (x y : ℤ) → Decided (x ≤ℤ y)
integer_at_most (pos m) (pos n) = restated (λ le. omega (arith, ints)) (λ le. omega (arith, ints)) (at_most m n)
integer_at_most (pos m) (negsuc n) = fails (λ le. omega (arith, ints))
integer_at_most (negsuc m) (pos n) = holds (omega (arith, ints))
integer_at_most (negsuc m) (negsuc n) = restated (λ le. omega (arith, ints)) (λ le. omega (arith, ints)) (at_most n m)

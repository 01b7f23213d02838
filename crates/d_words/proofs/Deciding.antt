-- What can be decided over plain values: that it holds, or that it doesn't.
use Rattle.std.proofs.Common.{◌≡◌, ℕ, suc, ◌<◌, ◌≤◌, Bool, true, false, ltb, ◌==◌, List, [], ◌∷◌, All, Decides, bytes_eq, refl, sym, arith, true≢false}
use Rattle.std.proofs.lemmas.Bool.Decides.{Decides-ltb, Decides-eqb}
use Rattle.std.proofs.lemmas.Slice.Eq.{bytes_eq-Decides, slice_eq-Decides}
use Rattle.std.proofs.lemmas.List.Elements.{recursion_from_All, All-from_recursion}
use Rattle.std.specs.Cmp.Lexicographic.{pointwise}
use Rattle.std.specs.List.{AllByRecursion}

-- it holds, or it doesn't
pub data Decided (P : Type 0) : Type 0 where
  holds : P → Decided P
  fails : (P → ⊥) → Decided P

-- by a test
pub by_test : {P : Type 0} (r : Bool) → Decides r P → Decided P
by_test true d = holds (d.0 refl)
by_test false d = fails (λ p. true≢false (sym (d.1 p)))

-- both of two
pub both : {P Q : Type 0} → Decided P → Decided Q → Decided (P × Q)
both (holds p) (holds q) = holds (p, q)
both (holds p) (fails none) = fails (λ h. none h.1)
both (fails none) d = fails (λ h. none h.0)

-- the opposite
pub opposite : {P : Type 0} → Decided P → Decided (P → ⊥)
opposite (holds p) = fails (λ h. h p)
opposite (fails none) = holds none

-- the same in other words
pub restated : {P Q : Type 0} → (P → Q) → (Q → P) → Decided P → Decided Q
restated there back (holds p) = holds (there p)
restated there back (fails none) = fails (λ q. none (back q))

-- one is below another
pub is_below : (x y : ℕ) → Decided (x < y)
is_below x y = by_test (ltb x y) (Decides-ltb x y)

-- one is at most another
pub at_most : (x y : ℕ) → Decided (x ≤ y)
at_most x y = restated (λ lt. omega arith) (λ le. omega arith) (is_below x (suc y))

-- numbers
pub same_number : (x y : ℕ) → Decided (x ≡ y)
same_number x y = by_test (x == y) (Decides-eqb x y)

-- lists of words
pub same_words : (xs ys : List (List ℕ)) → Decided (xs ≡ ys)
same_words xs ys = by_test (pointwise bytes_eq xs ys) (slice_eq-Decides bytes_eq-Decides xs ys (pointwise bytes_eq xs ys) refl)

-- of each item of a list
pub each_item : {X : Type 0} (P : X → Type 0) → ((x : X) → Decided (P x)) → (xs : List X) → Decided (All P xs)
each_item {X} P test xs = restated (All-from_recursion P xs) (recursion_from_All P xs) (by_recursion xs)
  where
    by_recursion : (xs : List X) → Decided (AllByRecursion P xs)
    by_recursion [] = holds tt
    by_recursion (x ∷ rest) = both (test x) (by_recursion rest)

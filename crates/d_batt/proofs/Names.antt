-- The bytes of a mode's name.
use Rattle.std.proofs.Common.{◌≡◌, ◌↔◌, ℕ, Bool, true, false, List, [], ◌∷◌, ◌&&◌, All, IsTrue, refl, sym, true≢false}
use Rattle.std.specs.List.{list_all}
use Rattle.std.proofs.lemmas.List.Elements.{recursion_from_All, All-from_recursion}
use Rattle.std.specs.List.{AllByRecursion}

all_listed : (test : ℕ → Bool) (xs : List ℕ) → AllByRecursion (λ x. IsTrue (test x)) xs → list_all test xs ≡ true
all_listed test [] all = refl
all_listed test (x ∷ xs) all = let here : test x ≡ true = all.0 in rw here (all_listed test xs all.1)

both_true : (a b : Bool) → (a && b) ≡ true → (a ≡ true) × (b ≡ true)
both_true true b e = (refl, e)
both_true false b e = absurd (true≢false (sym e))

listed_all : (test : ℕ → Bool) (xs : List ℕ) → list_all test xs ≡ true → AllByRecursion (λ x. IsTrue (test x)) xs
listed_all test [] e = tt
listed_all test (x ∷ xs) e = let parts = both_true (test x) (list_all test xs) e in (parts.0, listed_all test xs parts.1)

pub same_answer : (a b : Bool) → (a ≡ true → b ≡ true) → (b ≡ true → a ≡ true) → a ≡ b
same_answer true true there back = refl
same_answer false false there back = refl
same_answer true false there back = absurd (true≢false (sym (there refl)))
same_answer false true there back = absurd (true≢false (sym (back refl)))

-- a test of all bytes
pub all_test : (answer : Bool) (test : ℕ → Bool) (xs : List ℕ) → (IsTrue answer ↔ All (λ x. IsTrue (test x)) xs) → answer ≡ list_all test xs
all_test answer test xs is =
    same_answer answer (list_all test xs) (λ yes. all_listed test xs (recursion_from_All (λ x. IsTrue (test x)) xs (is.0 yes)))
    (λ all. is.1 (All-from_recursion (λ x. IsTrue (test x)) xs (listed_all test xs all)))

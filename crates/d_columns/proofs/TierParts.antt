-- Which tiers are there, by the first of their parts that is filled.
use Rattle.std.proofs.Common.{◌≡◌, Bool, true, false, List, [], ◌∷◌, Option, Some, refl, inl, inr}
use Rattle.std.proofs.lemmas.Bool.{cases_Bool}
use Rattle.std.specs.List.{list_any, find}
use Rattle.std.specs.Option.{is_some}

-- what passes a test is found
pub any_found : {A : Type 0} (test : A → Bool) (xs : List A) → list_any test xs ≡ is_some (find test xs)
any_found test [] = refl
any_found test (x ∷ xs) = elim (cases_Bool (test x)) [ inl passes ↦ rw passes refl | inr fails ↦ rw fails (any_found test xs) ]

-- of five tests the first that holds decides
pub found_1 : {A : Type 0} (test : A → Bool) (a : A) (xs : List A) → test a ≡ true → Some a ≡ find test (a ∷ xs)
found_1 test a xs passes = rw passes refl

pub found_later : {A : Type 0} (test : A → Bool) (a : A) (xs : List A) (result : Option A) → test a ≡ false → result ≡ find test xs → result ≡ find test (a ∷ xs)
found_later test a xs result fails later = rw fails later

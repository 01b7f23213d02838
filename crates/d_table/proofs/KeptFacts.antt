-- What is found in the first two rows of a value, as in all of them.
use Rattle.std.proofs.Common.{◌≡◌, ◌∙◌, ℕ, zero, suc, Bool, List, [], ◌∷◌, take, filter, refl, sym, ap, inl, inr}
use Rattle.std.proofs.lemmas.Bool.{cases_Bool}

-- rows that pass a test pass it again
pub filter-filter : (test : List (List ℕ) → Bool) (rows : List (List (List ℕ))) → filter test (filter test rows) ≡ filter test rows
filter-filter test [] = refl
filter-filter test (row ∷ rows) = elim (cases_Bool (test row)) [
  | inl hit ↦ rw (hit, hit) (ap (λ (rest : List (List (List ℕ))). row ∷ rest) (filter-filter test rows))
  | inr other ↦ rw other (filter-filter test rows)
]

-- so do the first of them
pub filter-take : (test : List (List ℕ) → Bool) (n : ℕ) (rows : List (List (List ℕ))) → filter test (take n (filter test rows)) ≡ take n (filter test rows)
filter-take test zero rows = refl
filter-take test (suc n) [] = refl
filter-take test (suc n) (row ∷ rows) = elim (cases_Bool (test row)) [
  | inl hit ↦ rw (hit, hit) (ap (λ (rest : List (List (List ℕ))). row ∷ rest) (filter-take test n rows))
  | inr other ↦ rw other (filter-take test (suc n) rows)
]

-- the rows of a value among the first two of them are the first two of the rows of that value among all of them
pub filter-first_two : (test : List (List ℕ) → Bool) (rows : List (List (List ℕ))) → filter test (take 2 (filter test rows)) ≡ take 2 (filter test (filter test rows))
filter-first_two test rows = filter-take test 2 rows ∙ ap (take 2) (sym (filter-filter test rows))

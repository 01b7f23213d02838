-- The columns of a row that nothing is read from.
use Rattle.std.proofs.Common.{◌≡◌, ◌∙◌, ◌+◌, ℕ, zero, suc, Bool, true, false, List, [], ◌∷◌, ◌++◌, length, filter, arith, refl, sym, ap, add-one}
use Rattle.std.proofs.lemmas.List.{append-nil}
use Rattle.std.proofs.lemmas.List.Elements.{filter-append}
use Rattle.std.specs.List.{range_with_len}
use Rattle.d_columns.specs.Ignored.{is_ignored, ignored_columns}
use Rattle.d_columns.specs.Tiers.{Row}

-- the columns up to one more
range_more : (n : ℕ) → range_with_len 0 (n + 1) ≡ range_with_len 0 n ++ n ∷ []
range_more n = rw add-one (from 0 n n (omega arith))
  where
    from : (a n j : ℕ) → a + n ≡ j → range_with_len a (suc n) ≡ range_with_len a n ++ j ∷ []
    from a zero j is = ap (λ (k : ℕ). k ∷ []) (omega (arith, is))
    from a (suc n) j is = ap (λ (xs : List ℕ). a ∷ xs) (from (a + 1) n j (omega (arith, is)))

-- a number that is kept
pub kept_here : (test : ℕ → Bool) (n : ℕ) (old new : List ℕ) → new ≡ old ++ n ∷ [] → old ≡ filter test (range_with_len 0 n) → true ≡ test n
    → new ≡ filter test (range_with_len 0 (n + 1))
kept_here test n old new is before passes =
    let one : filter test (n ∷ []) ≡ n ∷ [] = rw (sym passes) refl in
    is ∙ ap (λ (xs : List ℕ). xs ++ n ∷ []) before ∙ ap (λ (ys : List ℕ). filter test (range_with_len 0 n) ++ ys) (sym one)
    ∙ sym (ap (filter test) (range_more n) ∙ filter-append test (range_with_len 0 n) (n ∷ []))

-- a number that is left out
pub left_here : (test : ℕ → Bool) (n : ℕ) (old : List ℕ) → old ≡ filter test (range_with_len 0 n) → false ≡ test n → old ≡ filter test (range_with_len 0 (n + 1))
left_here test n old before fails =
    let none : filter test (n ∷ []) ≡ [] = rw (sym fails) refl in
    before ∙ sym (ap (filter test) (range_more n) ∙ filter-append test (range_with_len 0 n) (n ∷ [])
    ∙ ap (λ (ys : List ℕ). filter test (range_with_len 0 n) ++ ys) none ∙ append-nil (filter test (range_with_len 0 n)))

-- all columns of the header
pub all_kept : (row : Row) (count : ℕ) (columns : List ℕ) → count ≡ length row.header → columns ≡ filter (is_ignored row) (range_with_len 0 count)
    → columns ≡ ignored_columns row
unfolding ignored_columns
all_kept row count columns all is = is ∙ ap (λ (n : ℕ). filter (is_ignored row) (range_with_len 0 n)) all

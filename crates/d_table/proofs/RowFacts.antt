-- The rows of a file that were read so far, and those that are still to come.
use Rattle.std.proofs.Common.{◌≡◌, ◌≢◌, ◌∙◌, ℕ, ◌+◌, ◌-◌, ◌<◌, Bool, true, false, ◌&&◌, cond, nat_lt, List, [], ◌∷◌, ◌++◌, length, take, filter, bytes_eq, get_or, All, arith, refl, sym, ap, inl, inr, add-one, length-append}
use Rattle.std.proofs.Math.Seq.{get_or-append_seam}
use Rattle.std.proofs.lemmas.List.{append-nil, append_assoc, get_or_append_left}
use Rattle.std.proofs.lemmas.Bool.{cases_Bool}
use Rattle.std.proofs.lemmas.List.Elements.{All-nil, All-cons, All-push, All-get_or, filter-append}
use Rattle.d_table.specs.Table.{row_at, cell_in, IsRectangular, IsFirstOdd, kept_rows, has_value, column_of}
use Rattle.d_table.specs.declared.choice.Choice.{Choice}
use Rattle.d_table.specs.declared.choice.Choice.TheVariants.{Every, Where, Nothing}
use Rattle.d_table.specs.Choice.{kept_of, is_kept, with_kept}

-- so many data rows were read, each as long as the header, and the table has the header and the chosen ones of them
pub record AreRead (header all : List (List (List ℕ))) (choice : Choice) (number : ℕ) (table left : List (List (List ℕ))) : Type 0 where
  pub seen : List (List (List ℕ))
  pub whole : all ≡ seen ++ left
  pub count : length seen ≡ number
  pub even : All (λ row. length row ≡ length (row_at header 0)) seen
  pub kept : table ≡ header ++ kept_of choice seen

-- of no rows none are kept
kept_of-none : (choice : Choice) → kept_of choice [] ≡ []
kept_of-none Every = refl
kept_of-none (Where column value) = refl
kept_of-none Nothing = refl

-- none so far
pub none_read : (header all : List (List (List ℕ))) (choice : Choice) → AreRead header all choice 0 header all
none_read header all choice = record {
  seen = [];
  whole = refl;
  count = refl;
  even = All-nil (λ row. length row ≡ length (row_at header 0));
  kept = rw (kept_of-none choice) (sym (append-nil header));
}

-- the first two, with one more
first_two : (rows : List (List (List ℕ))) (row : List (List ℕ)) (chosen : Bool)
    → take 2 (rows ++ cond chosen (row ∷ []) []) ≡ take 2 rows ++ cond (nat_lt (length (take 2 rows)) 2 && chosen) (row ∷ []) []
first_two [] row true = refl
first_two [] row false = refl
first_two (a ∷ []) row true = refl
first_two (a ∷ []) row false = refl
first_two (a ∷ b ∷ rows) row chosen = refl

-- the kept rows, with one more
kept_of-more : (choice : Choice) (seen : List (List (List ℕ))) (row : List (List ℕ))
    → kept_of choice (seen ++ row ∷ []) ≡ kept_of choice seen ++ cond (is_kept choice (length (kept_of choice seen)) row) (row ∷ []) []
kept_of-more Every seen row = refl
kept_of-more (Where column value) seen row =
    let test : List (List ℕ) → Bool = λ cells. bytes_eq (cell_in cells column) value.now in
    ap (take 2) (filter-append test seen (row ∷ [])) ∙ first_two (filter test seen) row (test row)
kept_of-more Nothing seen row = refl

-- how many are kept so far
kept_count : (header all : List (List (List ℕ))) (choice : Choice) (number : ℕ) (table left : List (List (List ℕ)))
    → (read : AreRead header all choice number table left) → length header ≡ 1 → length table - 1 ≡ length (kept_of choice read.seen)
kept_count header all choice number table left read one =
    omega (arith, ap length read.kept, length-append header (kept_of choice read.seen))

-- one more, which is kept
kept_read : (header all : List (List (List ℕ))) (choice : Choice) (number : ℕ) (table left : List (List (List ℕ))) (row : List (List ℕ)) (rest : List (List (List ℕ)))
    → AreRead header all choice number table left → length header ≡ 1 → left ≡ row ∷ rest → length row ≡ length (row_at header 0) → is_kept choice (length table - 1) row ≡ true
    → AreRead header all choice (number + 1) (table ++ row ∷ []) rest
kept_read header all choice number table left row rest read one next long chosen = record {
  seen = read.seen ++ row ∷ [];
  whole = read.whole ∙ ap (λ rows. read.seen ++ rows) next ∙ sym (append_assoc read.seen (row ∷ []) rest);
  count = omega (arith, read.count, length-append read.seen (row ∷ []));
  even = All-push (λ row. length row ≡ length (row_at header 0)) read.seen row read.even long;
  kept =
      let now : is_kept choice (length (kept_of choice read.seen)) row ≡ true = rw (← kept_count header all choice number table left read one) chosen in
      let more = rw now at (kept_of-more choice read.seen row) in
      rw more (ap (λ (rows : List (List (List ℕ))). rows ++ row ∷ []) read.kept ∙ append_assoc header (kept_of choice read.seen) (row ∷ []));
}

-- one more, which is passed over
passed_read : (header all : List (List (List ℕ))) (choice : Choice) (number : ℕ) (table left : List (List (List ℕ))) (row : List (List ℕ)) (rest : List (List (List ℕ)))
    → AreRead header all choice number table left → length header ≡ 1 → left ≡ row ∷ rest → length row ≡ length (row_at header 0) → is_kept choice (length table - 1) row ≡ false
    → AreRead header all choice (number + 1) table rest
passed_read header all choice number table left row rest read one next long other = record {
  seen = read.seen ++ row ∷ [];
  whole = read.whole ∙ ap (λ rows. read.seen ++ rows) next ∙ sym (append_assoc read.seen (row ∷ []) rest);
  count = omega (arith, read.count, length-append read.seen (row ∷ []));
  even = All-push (λ row. length row ≡ length (row_at header 0)) read.seen row read.even long;
  kept =
      let now : is_kept choice (length (kept_of choice read.seen)) row ≡ false = rw (← kept_count header all choice number table left read one) other in
      let more = rw now at (kept_of-more choice read.seen row) in
      rw (more, append-nil (kept_of choice read.seen)) read.kept;
}

-- one more
pub row_read : (header all : List (List (List ℕ))) (choice : Choice) (number : ℕ) (table left : List (List (List ℕ))) (row : List (List ℕ)) (rest : List (List (List ℕ)))
    → AreRead header all choice number table left → length header ≡ 1 → left ≡ row ∷ rest → length row ≡ length (row_at header 0)
    → AreRead header all choice (number + 1) (with_kept choice table row) rest
row_read header all choice number table left row rest read one next long = elim (cases_Bool (is_kept choice (length table - 1) row)) [
  | inl chosen ↦ rw chosen (kept_read header all choice number table left row rest read one next long chosen)
  | inr other ↦ rw other (passed_read header all choice number table left row rest read one next long other)
]

-- the header stays first
pub first_row : (header all : List (List (List ℕ))) (choice : Choice) (number : ℕ) (table left : List (List (List ℕ)))
    → AreRead header all choice number table left → length header ≡ 1 → (0 < length table) × (row_at table 0 ≡ row_at header 0)
first_row [] all test number table left read one = absurd (omega (arith, one))
first_row (first ∷ more) all test number table left read one = (rw read.kept (omega arith), rw read.kept refl)

-- all are read
pub all_read : (header all : List (List (List ℕ))) (choice : Choice) (number : ℕ) (table left : List (List (List ℕ)))
    → AreRead header all choice number table left → length header ≡ 1 → left ≡ []
    → (table ≡ header ++ kept_of choice all) × IsRectangular (header ++ all)
all_read [] all test number table left read one ended = absurd (omega (arith, one))
all_read (first ∷ second ∷ more) all test number table left read one ended = absurd (omega (arith, one))
all_read (first ∷ []) all test number table left read one ended =
    let seen : all ≡ read.seen = read.whole ∙ ap (λ rows. read.seen ++ rows) ended ∙ append-nil read.seen in
    (rw seen read.kept, All-cons (λ row. length row ≡ length first) first all refl (rw seen read.even))

-- the next one is odd
pub odd_read : (header all : List (List (List ℕ))) (choice : Choice) (number : ℕ) (table left : List (List (List ℕ))) (row : List (List ℕ)) (rest : List (List (List ℕ)))
    → AreRead header all choice number table left → length header ≡ 1 → left ≡ row ∷ rest → length row ≢ length (row_at header 0)
    → IsFirstOdd (header ++ all) number
odd_read [] all test number table left row rest read one next odd = absurd (omega (arith, one))
odd_read (first ∷ second ∷ more) all test number table left row rest read one next odd = absurd (omega (arith, one))
odd_read (first ∷ []) all test number table left row rest read one next odd =
    let whole : all ≡ read.seen ++ row ∷ rest = read.whole ∙ ap (λ rows. read.seen ++ rows) next in
    let here : get_or (read.seen ++ row ∷ rest) number [] ≡ row = rw (← read.count) (get_or-append_seam read.seen row rest []) in
    record {
      there = rw whole (omega (arith, read.count, length-append read.seen (row ∷ rest)));
      odd = rw (whole, add-one, here) odd;
      before = λ k below.
          let within : k < length read.seen = omega (arith, read.count) in
          rw (whole, add-one, get_or_append_left read.seen (row ∷ rest) [] k within)
          (All-get_or (λ row. length row ≡ length first) read.seen k [] within read.even);
    }

-- a test that passes none keeps none
pub filter-none : (rows : List (List (List ℕ))) → filter (λ _. false) rows ≡ []
filter-none [] = refl
filter-none (row ∷ rows) = filter-none rows

-- a header's table with the first two of the chosen rows, as the kept rows of the whole
pub kept_are : (name value : List ℕ) (table left : List (List (List ℕ))) → length table ≡ 1
    → kept_rows name value (table ++ left) ≡ table ++ take 2 (filter (has_value (column_of name (row_at table 0)) value) left)
kept_are name value [] left one = absurd (omega (arith, one))
kept_are name value (first ∷ second ∷ more) left one = absurd (omega (arith, one))
kept_are name value (first ∷ []) left one = refl

-- An index of the first columns of a row, with one more column.
use Rattle.std.proofs.Common.{◌≡◌, ◌≢◌, ◌∙◌, ◌↔◌, ◌<◌, ◌≤◌, ◌+◌, ℕ, true, false, List, length, None, Some, replicate, get_or, arith, refl, sym, ap, inl, inr}
use Rattle.std.proofs.lemmas.Bool.{cases_eq, cases_lt, cases_Bool}
use Rattle.std.proofs.lemmas.List.{get_or-replicate, length-replicate}
use Rattle.std.proofs.Math.ListN.{get_or-eq_default}
use Rattle.std.specs.Option.{option_or}
use Rattle.std.specs.Str.{str_to_ascii_lowercase}
use Rattle.std.specs.Str.Parse.{digits_value}
use Rattle.d_table.specs.Table.{cell_in}
use Rattle.d_columns.specs.declared.names.Structure.{Structure}
use Rattle.d_columns.specs.declared.names.Part.{Part}
use Rattle.d_columns.specs.Names.{name_of, tier_name, number_text, IsTierName, IsPastLast}
use Rattle.d_columns.specs.Tiers.{Row, has_part, part_column, is_filled}
use Rattle.d_columns.specs.Index.{Slots, column_at, is_marked, period_place, part_place, first_columns, IsIndexOf}
use Rattle.d_columns.proofs.DigitFacts.{text_number, text_value, text_of_value}
use Rattle.d_columns.proofs.NameFacts.{is_name, name_parts}
use Rattle.d_columns.proofs.PlaceFacts.{place_same}
use Rattle.d_columns.proofs.ColumnFacts.{part_other, part_here, part_empty, no_cell, no_tier}

-- the name of a column, in small letters
abbrev pub text_at : Row → ℕ → List ℕ
text_at row column = str_to_ascii_lowercase (cell_in row.header column)

-- what reading a name finds
pub record Finds (text : List ℕ) (structure : Structure) (period : ℕ) (digits : List ℕ) (part : Part) : Type 0 where
  pub exact : (s : Structure) (p : ℕ) (d : List ℕ) (q : Part) → (is_name structure period digits part ≡ is_name s p d q) ↔ IsTierName text s p d q

-- a tier's name is one that is read
pub is_read : (text : List ℕ) (structure : Structure) (period tier : ℕ) (part : Part) → period ≤ 35 → tier_name structure period tier part ≡ text
    → IsTierName text structure period (number_text tier) part
is_read text structure period tier part few same = record { there = few; number = text_number tier; form = sym same }

-- the period that is found is there
pub found_there : (text : List ℕ) (s : Structure) (p : ℕ) (d : List ℕ) (q : Part) → Finds text s p d q → p ≤ 35
found_there text s p d q finds = ((finds.exact s p d q).0 refl).there

-- what is found is what a tier's name says
pub found_same : (text : List ℕ) (s : Structure) (p : ℕ) (d : List ℕ) (q : Part) → Finds text s p d q
    → (structure : Structure) (period tier : ℕ) (part : Part) → period ≤ 35 → tier_name structure period tier part ≡ text
    → (s ≡ structure) × (p ≡ period) × (digits_value 10 d ≡ tier) × (q ≡ part)
found_same text s p d q finds structure period tier part few same =
    let parts = name_parts s structure p period d (number_text tier) q part ((finds.exact structure period (number_text tier) part).1 (is_read text structure period tier part few same)) in
    (parts.0, parts.1, ap (λ digits. digits_value 10 digits) parts.2 ∙ text_value tier, parts.3)

-- a column that names no part of a tier
pub index_same : (row : Row) (column : ℕ) (slots : Slots) → column < length row.header → IsIndexOf (first_columns column row) slots
    → ((structure : Structure) (period tier : ℕ) (part : Part) → period ≤ 35 → has_part structure part ≡ true → tier_name structure period tier part ≡ text_at row column → ⊥)
    → IsIndexOf (first_columns (column + 1) row) slots
index_same row column slots within before others = record {
  columns = λ structure period tier part few low.
      before.columns structure period tier part few low ∙ sym (part_other row column within structure period tier part (others structure period tier part few));
  marks = λ structure period few unmarked tier high.
      no_tier (first_columns (column + 1) row) structure period tier (λ part.
      let same = part_other row column within structure period tier part (others structure period tier part few) in
      rw same (no_cell (first_columns column row) structure period tier (before.marks structure period few unmarked tier high) part));
}

-- the name that is found is the name of the tier of its number
pub found_name : (text : List ℕ) (s : Structure) (p k : ℕ) (d : List ℕ) (q : Part) → Finds text s p d q → k ≡ digits_value 10 d → tier_name s p k q ≡ text
found_name text s p k d q finds value =
    let is = (finds.exact s p d q).0 refl in
    ap (λ digits. name_of s p digits q) (ap number_text value ∙ text_of_value d is.number) ∙ sym is.form

-- a column that names a part of one of the tiers 0 to 15
pub index_column : (row : Row) (column : ℕ) (old new : Slots) (s : Structure) (p k : ℕ) (d : List ℕ) (q : Part) → column < length row.header
    → IsIndexOf (first_columns column row) old → Finds (text_at row column) s p d q → has_part s q ≡ true → k ≤ 15 → k ≡ digits_value 10 d
    → column_at new s p k q ≡ option_or (column_at old s p k q) (Some column)
    → ((place : ℕ) → place ≢ part_place s p k q → get_or new.columns place None ≡ get_or old.columns place None)
    → new.marks ≡ old.marks
    → IsIndexOf (first_columns (column + 1) row) new
index_column row column old new s p k d q within before finds has low value here others marks =
    let there = found_there (text_at row column) s p d q finds in
    let named = found_name (text_at row column) s p k d q finds value in
    let found : column_at new s p k q ≡ part_column (first_columns (column + 1) row) s p k q =
    here ∙ ap (λ o. option_or o (Some column)) (before.columns s p k q there low) ∙ sym (part_here row column within s p k q has named) in
    record {
      columns = λ structure period tier part few least. elim (cases_eq (part_place structure period tier part) (part_place s p k q)) [
        | inl same ↦
            let parts = place_same structure s period p tier k part q few there least low same in
            rw (parts.0, parts.1, parts.2, parts.3) found
        | inr differs ↦
            others (part_place structure period tier part) differs ∙ before.columns structure period tier part few least
            ∙ sym (part_other row column within structure period tier part (λ _ name.
            let parts = found_same (text_at row column) s p d q finds structure period tier part few name in
            let number : k ≡ tier = value ∙ parts.2 in
            let place : part_place structure period tier part ≡ part_place s p k q = cc (parts.0, parts.1, parts.3) in
            differs place))
      ];
      marks = λ structure period few unmarked tier high.
          let unmarked_before = ap (λ marks. get_or marks (period_place structure period) false) (sym marks) ∙ unmarked in
          no_tier (first_columns (column + 1) row) structure period tier (λ part.
          let same = part_other row column within structure period tier part (λ _ name.
          let parts = found_same (text_at row column) s p d q finds structure period tier part few name in
          omega (arith, parts.2)) in
          rw same (no_cell (first_columns column row) structure period tier (before.marks structure period few unmarked_before tier high) part));
    }

-- a column that names a part of a tier past those has no slot
past_column : (row : Row) (column : ℕ) (s : Structure) (p : ℕ) (d : List ℕ) (q : Part) → column < length row.header
    → Finds (text_at row column) s p d q → IsPastLast d → (structure : Structure) (period tier : ℕ) (part : Part) → period ≤ 35 → tier ≤ 15
    → part_column (first_columns (column + 1) row) structure period tier part ≡ part_column (first_columns column row) structure period tier part
past_column row column s p d q within finds past structure period tier part few least =
    part_other row column within structure period tier part (λ _ name.
    let parts = found_same (text_at row column) s p d q finds structure period tier part few name in
    omega (arith, parts.2))

-- it marks its period where its cell is filled
pub index_past : (row : Row) (column : ℕ) (old new : Slots) (s : Structure) (p : ℕ) (d : List ℕ) (q : Part) → column < length row.header
    → IsIndexOf (first_columns column row) old → Finds (text_at row column) s p d q → IsPastLast d
    → is_marked new s p ≡ true
    → ((place : ℕ) → place ≢ period_place s p → get_or new.marks place false ≡ get_or old.marks place false)
    → new.columns ≡ old.columns
    → IsIndexOf (first_columns (column + 1) row) new
index_past row column old new s p d q within before finds past here others columns = record {
  columns = λ structure period tier part few least.
      ap (λ columns. get_or columns (part_place structure period tier part) None) columns ∙ before.columns structure period tier part few least
      ∙ sym (past_column row column s p d q within finds past structure period tier part few least);
  marks = λ structure period few unmarked tier high.
      let differs : period_place structure period ≢ period_place s p = λ same.
      let marked : is_marked new structure period ≡ true = ap (λ place. get_or new.marks place false) same ∙ here in cc in
      let unmarked_before = sym (others (period_place structure period) differs) ∙ unmarked in
      no_tier (first_columns (column + 1) row) structure period tier (λ part.
      let same = part_other row column within structure period tier part (λ _ name.
      let parts = found_same (text_at row column) s p d q finds structure period tier part few name in
      let place : period_place structure period ≡ period_place s p = cc (parts.0, parts.1) in
      differs place) in
      rw same (no_cell (first_columns column row) structure period tier (before.marks structure period few unmarked_before tier high) part));
}

-- and changes nothing where its cell is empty
pub index_empty : (row : Row) (column : ℕ) (slots : Slots) (s : Structure) (p : ℕ) (d : List ℕ) (q : Part) → column < length row.header
    → IsIndexOf (first_columns column row) slots → Finds (text_at row column) s p d q → IsPastLast d → is_filled (cell_in row.cells column) ≡ false
    → IsIndexOf (first_columns (column + 1) row) slots
index_empty row column slots s p d q within before finds past empty = record {
  columns = λ structure period tier part few least.
      before.columns structure period tier part few least ∙ sym (past_column row column s p d q within finds past structure period tier part few least);
  marks = λ structure period few unmarked tier high.
      no_tier (first_columns (column + 1) row) structure period tier (λ part.
      part_empty row column within empty structure period tier part (no_cell (first_columns column row) structure period tier (before.marks structure period few unmarked tier high) part));
}

-- no column is read yet
pub index_none : (row : Row) (slots : Slots) → ((place : ℕ) → get_or slots.columns place None ≡ None) → IsIndexOf (first_columns 0 row) slots
index_none row slots empty = record {
  columns = λ structure period tier part few least. elim (cases_Bool (has_part structure part)) [
    | inl has ↦ rw has (empty (part_place structure period tier part))
    | inr none ↦ rw none (empty (part_place structure period tier part))
  ];
  marks = λ structure period few unmarked tier high. no_tier (first_columns 0 row) structure period tier (λ part. elim (cases_Bool (has_part structure part)) [
    | inl has ↦ rw has refl
    | inr none ↦ rw none refl
  ]);
}

-- each place of a list of one value has that value, and past its end it is the default
pub all_same : {A : Type 0} (count place : ℕ) (x : A) → get_or (replicate count x) place x ≡ x
all_same count place x = elim (cases_lt place count) [
  | inl within ↦ get_or-replicate count place x x within
  | inr past ↦ get_or-eq_default (replicate count x) x (omega (arith, length-replicate count x))
]

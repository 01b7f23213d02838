-- The columns of tiers, one column of the header after the other.
use Rattle.std.proofs.Common.{◌≡◌, ◌∙◌, ◌<◌, ◌≤◌, ◌+◌, ◌||◌, ℕ, Bool, true, false, cond, List, [], ◌∷◌, ◌++◌, length, take, Option, None, Some, bytes_eq, position, arith, refl, ap, add-one, inl, inr, length-take, length-append}
use Rattle.std.proofs.lemmas.Bool.{cases_Bool}
use Rattle.std.proofs.lemmas.Bool.Decides.{nat_tests}
use Rattle.std.proofs.lemmas.Slice.Eq.{bytes_eq-Decides}
use Rattle.std.proofs.lemmas.List.Folds.{position_or_len_push}
use Rattle.std.proofs.lemmas.List.Sums.{prefix_len-le-length}
use Rattle.std.proofs.Math.Seq.{take-suc}
use Rattle.std.specs.List.{position_or_len}
use Rattle.std.specs.Option.{option_or}
use Rattle.std.specs.Str.{str_to_ascii_lowercase}
use Rattle.d_table.specs.Table.{column_of, cell_in}
use Rattle.d_columns.specs.declared.names.Structure.{Structure}
use Rattle.d_columns.specs.declared.names.Part.{Part}
use Rattle.d_columns.specs.declared.names.Part.TheVariants.{Max, Unit, Rate, Adj, Sell}
use Rattle.d_columns.specs.Names.{tier_name, cell_at}
use Rattle.d_columns.specs.Tiers.{Row, has_part, part_column, part_cell, has_tier, is_filled}
use Rattle.d_columns.specs.Index.{first_columns}

-- the place of the first that passes, with one more
position-push : (test : List ℕ → Bool) (xs : List (List ℕ)) (x : List ℕ)
    → position test (xs ++ x ∷ []) ≡ option_or (position test xs) (cond (test x) (Some (length xs)) None)
position-push test xs x =
    let most : position_or_len test xs ≤ length xs = prefix_len-le-length _ xs in
    let more = position_or_len_push test xs x in
    let long = length-append xs (x ∷ []) in
    grind (arith, nat_tests)

-- the column of a name, with one more cell in the header
column_more : (name : List ℕ) (header : List (List ℕ)) (column : ℕ) → column < length header
    → column_of name (take (column + 1) header)
    ≡ option_or (column_of name (take column header)) (cond (bytes_eq name (str_to_ascii_lowercase (cell_in header column))) (Some column) None)
column_more name header column within =
    let size : length (take column header) ≡ column = omega (arith, length-take column header) in
    rw (add-one, take-suc header column [] within) (position-push (λ cell. bytes_eq name (str_to_ascii_lowercase cell)) (take column header) (cell_in header column)
    ∙ ap (λ place. option_or (column_of name (take column header)) (cond (bytes_eq name (str_to_ascii_lowercase (cell_in header column))) (Some place) None)) size)

or_none : (o : Option ℕ) → option_or o None ≡ o
or_none None = refl
or_none (Some x) = refl

-- a cell of another name changes nothing
column_other : (name : List ℕ) (header : List (List ℕ)) (column : ℕ) → column < length header → (name ≡ str_to_ascii_lowercase (cell_in header column) → ⊥)
    → column_of name (take (column + 1) header) ≡ column_of name (take column header)
column_other name header column within other = elim (cases_Bool (bytes_eq name (str_to_ascii_lowercase (cell_in header column)))) [
  | inl same ↦ absurd (other ((bytes_eq-Decides name (str_to_ascii_lowercase (cell_in header column))).0 same))
  | inr differs ↦ rw (column_more name header column within, differs) (or_none (column_of name (take column header)))
]

-- a cell of that name counts where none came before
column_here : (name : List ℕ) (header : List (List ℕ)) (column : ℕ) → column < length header → name ≡ str_to_ascii_lowercase (cell_in header column)
    → column_of name (take (column + 1) header) ≡ option_or (column_of name (take column header)) (Some column)
column_here name header column within same =
    let is = (bytes_eq-Decides name (str_to_ascii_lowercase (cell_in header column))).1 same in
    rw (column_more name header column within, is) refl

-- a cell that doesn't name that part of a tier changes nothing
pub part_other : (row : Row) (column : ℕ) → column < length row.header → (structure : Structure) (period tier : ℕ) (part : Part)
    → (has_part structure part ≡ true → tier_name structure period tier part ≡ str_to_ascii_lowercase (cell_in row.header column) → ⊥)
    → part_column (first_columns (column + 1) row) structure period tier part ≡ part_column (first_columns column row) structure period tier part
part_other row column within structure period tier part other = elim (cases_Bool (has_part structure part)) [
  | inl has ↦ rw has (column_other (tier_name structure period tier part) row.header column within (other has))
  | inr none ↦ rw none refl
]

-- a cell that names it counts where none came before
pub part_here : (row : Row) (column : ℕ) → column < length row.header → (structure : Structure) (period tier : ℕ) (part : Part)
    → has_part structure part ≡ true → tier_name structure period tier part ≡ str_to_ascii_lowercase (cell_in row.header column)
    → part_column (first_columns (column + 1) row) structure period tier part ≡ option_or (part_column (first_columns column row) structure period tier part) (Some column)
part_here row column within structure period tier part has same = rw has (column_here (tier_name structure period tier part) row.header column within same)

-- an empty cell fills no part
either_empty : (o : Option ℕ) (column : ℕ) (cells : List (List ℕ)) → is_filled (cell_at o cells) ≡ false → is_filled (cell_in cells column) ≡ false
    → is_filled (cell_at (option_or o (Some column)) cells) ≡ false
either_empty None column cells before here = here
either_empty (Some first) column cells before here = before

pub part_empty : (row : Row) (column : ℕ) → column < length row.header → is_filled (cell_in row.cells column) ≡ false
    → (structure : Structure) (period tier : ℕ) (part : Part)
    → is_filled (part_cell (first_columns column row) structure period tier part) ≡ false
    → is_filled (part_cell (first_columns (column + 1) row) structure period tier part) ≡ false
part_empty row column within empty structure period tier part before = elim (cases_Bool (has_part structure part)) [
  | inl has ↦ elim (cases_Bool (bytes_eq (tier_name structure period tier part) (str_to_ascii_lowercase (cell_in row.header column)))) [
    | inl same ↦
        let is = (bytes_eq-Decides (tier_name structure period tier part) (str_to_ascii_lowercase (cell_in row.header column))).0 same in
        let column_is = part_here row column within structure period tier part has is in
        rw column_is (either_empty (part_column (first_columns column row) structure period tier part) column row.cells before empty)
    | inr differs ↦
        let column_is = part_other row column within structure period tier part (λ _ is. let same = (bytes_eq-Decides (tier_name structure period tier part) (str_to_ascii_lowercase (cell_in row.header column))).1 is in cc) in
        rw column_is before
  ]
  | inr none ↦ rw none refl
]

-- both are false where either is
neither : (a b : Bool) → (a || b) ≡ false → (a ≡ false) × (b ≡ false)
neither true b same = cc
neither false b same = (refl, same)

-- no cell of a tier that isn't there is filled
pub no_cell : (row : Row) (structure : Structure) (period tier : ℕ) → has_tier row structure period tier ≡ false
    → (part : Part) → is_filled (part_cell row structure period tier part) ≡ false
unfolding has_tier
no_cell row structure period tier none part =
    let filled : Part → Bool = λ part. is_filled (part_cell row structure period tier part) in
    let first = neither (filled Max) (filled Unit || (filled Rate || (filled Adj || (filled Sell || false)))) none in
    let second = neither (filled Unit) (filled Rate || (filled Adj || (filled Sell || false))) first.1 in
    let third = neither (filled Rate) (filled Adj || (filled Sell || false)) second.1 in
    let fourth = neither (filled Adj) (filled Sell || false) third.1 in
    let fifth = neither (filled Sell) false fourth.1 in
    elim part as (λ part. is_filled (part_cell row structure period tier part) ≡ false) [
      | Max ↦ first.0
      | Unit ↦ second.0
      | Rate ↦ third.0
      | Adj ↦ fourth.0
      | Sell ↦ fifth.0
    ]

-- a tier of which no cell is filled isn't there
pub no_tier : (row : Row) (structure : Structure) (period tier : ℕ)
    → ((part : Part) → is_filled (part_cell row structure period tier part) ≡ false) → has_tier row structure period tier ≡ false
unfolding has_tier
no_tier row structure period tier none = rw (none Max, none Unit, none Rate, none Adj, none Sell) refl

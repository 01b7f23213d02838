-- The cells of tiers past the last one that a period has room for.
use Rattle.std.proofs.Common.{◌≡◌, ◌∙◌, ◌↔◌, ◌<◌, ◌≤◌, ◌+◌, ◌*◌, ℕ, true, false, List, [], length, Option, None, Some, option_map, bytes_eq, nat_lt, arith, refl, sym, ap, inl, inr, subst}
use Rattle.std.proofs.lemmas.Bool.{cases_lt, cases_Bool}
use Rattle.std.proofs.lemmas.Bool.Decides.{nat_tests}
use Rattle.std.proofs.lemmas.List.Quantifiers.{position-Some}
use Rattle.std.proofs.lemmas.Slice.Eq.{bytes_eq-Decides}
use Rattle.std.specs.Str.{str_to_ascii_lowercase}
use Rattle.std.specs.Str.Parse.{digits_value}
use Rattle.d_table.specs.Table.{column_of, cell_in}
use Rattle.d_columns.specs.declared.names.Structure.{Structure}
use Rattle.d_columns.specs.declared.names.Part.{Part}
use Rattle.d_columns.specs.declared.names.Part.TheVariants.{Max, Unit, Rate, Adj, Sell}
use Rattle.d_columns.specs.Names.{tier_name, part_number, IsTierNumber, IsPastLast}
use Rattle.d_columns.specs.Tiers.{Row, has_part, part_column, part_cell, has_tier, first_filled, is_filled}
use Rattle.d_columns.specs.Past.{PartCell, IsPastCell, IsFirstPast, IsPastLastFound, order_of, sooner}
use Rattle.d_columns.proofs.DigitFacts.{number_once}
use Rattle.d_columns.proofs.PlaceFacts.{part_below}
use Rattle.d_columns.proofs.ColumnFacts.{no_cell, no_tier}
use Rattle.d_columns.proofs.IndexFacts.{text_at, Finds, found_same, found_name}

-- a cell whose tier's number is neither below nor the same isn't before
pub not_before : (xs ys : List ℕ) (a b : PartCell) → IsTierNumber xs → IsTierNumber ys → digits_value 10 xs ≡ a.tier → digits_value 10 ys ≡ b.tier
    → (digits_value 10 xs < digits_value 10 ys → ⊥) → false ≡ bytes_eq xs ys → false ≡ nat_lt (order_of a) (order_of b)
not_before xs ys a b xn yn x_is y_is below other =
    let differs : digits_value 10 xs ≡ digits_value 10 ys → ⊥ = λ same.
    let is = (bytes_eq-Decides xs ys).1 (number_once xs ys xn yn same) in cc in
    let first = part_below a.part in
    let second = part_below b.part in
    behind a.tier b.tier (part_number a.part) (part_number b.part) first second (λ less. below (omega arith)) (λ same. differs (omega arith))
  where
    behind : (m n q r : ℕ) → q < 5 → r < 5 → (m < n → ⊥) → (m ≡ n → ⊥) → false ≡ nat_lt (m * 5 + q) (n * 5 + r)
    behind m n q r few many below same =
        let above : n < m = omega arith in
        grind (arith, nat_tests)

-- what a column of a tier past the last says
pub record Says (row : Row) (structure : Structure) (period column : ℕ) (cell : PartCell) : Type 0 where
  pub has : has_part structure cell.part ≡ true
  pub name : tier_name structure period cell.tier cell.part ≡ text_at row column
  pub first : column_of (text_at row column) row.header ≡ Some column

pub past_says : (row : Row) (structure : Structure) (period column : ℕ) (cell : PartCell) → cell.column ≡ column → IsPastCell row structure period cell
    → Says row structure period column cell
past_says row structure period column cell here past =
    subst (λ (c : ℕ). Says row structure period c cell) here (elim (cases_Bool (has_part structure cell.part)) [
      | inl has ↦
          let name = tier_name structure period cell.tier cell.part in
          let found : column_of name row.header ≡ Some cell.column = rw has at past.column in
          let test = (position-Some (λ text. bytes_eq name (str_to_ascii_lowercase text)) row.header cell.column [] found).1 in
          let same = (bytes_eq-Decides name (text_at row cell.column)).0 test in
          record { has = has; name = same; first = ap (λ text. column_of text row.header) (sym same) ∙ found }
      | inr none ↦ let missing = rw none at past.column in absurd cc
    ])

-- the cell that is found
pub past_found : (row : Row) (s : Structure) (p : ℕ) (d : List ℕ) (q : Part) (structure : Structure) (period column : ℕ) → Finds (text_at row column) s p d q
    → s ≡ structure → p ≡ period → period ≤ 35 → has_part structure q ≡ true → IsPastLast d → is_filled (cell_in row.cells column) ≡ true
    → column_of (text_at row column) row.header ≡ Some column → (cell : PartCell)
    → (Some (record { column = column; tier = digits_value 10 d; part = q }) ≡ Some cell) ↔ ((cell.column ≡ column) × IsPastCell row structure period cell)
past_found row s p d q structure period column finds s_is p_is few has past filled first cell =
    let made : PartCell = record { column = column; tier = digits_value 10 d; part = q } in
    let own = found_name (text_at row column) s p (digits_value 10 d) d q finds refl in
    let name : tier_name structure period (digits_value 10 d) q ≡ text_at row column = rw (← s_is, ← p_is) own in
    let is : IsPastCell row structure period made = record {
      past = past;
      column = rw has (ap (λ text. column_of text row.header) name ∙ first);
      filled = filled;
    } in (
      λ same.
          let same_cell : made ≡ cell = cc in
          (ap (λ (c : PartCell). c.column) (sym same_cell), subst (λ (c : PartCell). IsPastCell row structure period c) same_cell is),
      λ there.
          let says = past_says row structure period column cell there.0 there.1 in
          let parts = found_same (text_at row column) s p d q finds structure period cell.tier cell.part few says.name in
          let put : ℕ → ℕ → Part → Option PartCell = λ c t u. Some (record { column = c; tier = t; part = u }) in
          ap (λ c. put c (digits_value 10 d) q) (sym there.0) ∙ ap (λ t. put cell.column t q) parts.2 ∙ ap (λ u. put cell.column cell.tier u) parts.3,
    )

-- one more column
pub first_more : (row : Row) (structure : Structure) (period count : ℕ) (first found : Option PartCell) → IsFirstPast row structure period count first
    → ((cell : PartCell) → (found ≡ Some cell) ↔ ((cell.column ≡ count) × IsPastCell row structure period cell))
    → IsFirstPast row structure period (count + 1) (sooner first found)
first_more row structure period count None None before exact = λ cell within past. elim (cases_lt cell.column count) [
  | inl earlier ↦ before cell earlier past
  | inr last ↦ let found = (exact cell).1 (omega arith, past) in cc
]
first_more row structure period count (Some first) None before exact = (
  before.0,
  λ cell within past. elim (cases_lt cell.column count) [
    | inl earlier ↦ before.1 cell earlier past
    | inr last ↦ let found = (exact cell).1 (omega arith, past) in absurd cc
  ],
)
first_more row structure period count None (Some next) before exact = (
  ((exact next).0 refl).1,
  λ cell within past. elim (cases_lt cell.column count) [
    | inl earlier ↦ absurd (before cell earlier past)
    | inr last ↦
        let same : next ≡ cell = let found = (exact cell).1 (omega arith, past) in cc in
        omega (arith, ap order_of same)
  ],
)
first_more row structure period count (Some first) (Some next) before exact = elim (cases_Bool (nat_lt (order_of next) (order_of first))) [
  | inl sooner ↦ rw sooner (
    ((exact next).0 refl).1,
    λ cell within past. elim (cases_lt cell.column count) [
      | inl earlier ↦ omega (arith, before.1 cell earlier past, tells_less (order_of next) (order_of first) sooner)
      | inr last ↦
          let same : next ≡ cell = let found = (exact cell).1 (omega arith, past) in cc in
          omega (arith, ap order_of same)
    ],
  )
  | inr later ↦ rw later (
    before.0,
    λ cell within past. elim (cases_lt cell.column count) [
      | inl earlier ↦ before.1 cell earlier past
      | inr last ↦
          let same : next ≡ cell = let found = (exact cell).1 (omega arith, past) in cc in
          omega (arith, ap order_of same, tells_more (order_of next) (order_of first) later)
    ],
  )
]
  where
    tells_less : (a b : ℕ) → nat_lt a b ≡ true → a < b
    tells_less a b test = grind (arith, nat_tests)

    tells_more : (a b : ℕ) → nat_lt a b ≡ false → b ≤ a
    tells_more a b test = grind (arith, nat_tests)

-- a filled part of a tier past the last is such a cell
pub past_cell_of : (row : Row) (structure : Structure) (period tier : ℕ) (part : Part) → 16 ≤ tier → is_filled (part_cell row structure period tier part) ≡ true
    → (column : ℕ) × IsPastCell row structure period (record { column = column; tier = tier; part = part })
past_cell_of row structure period tier part past filled = go (part_column row structure period tier part) refl
  where
    go : (o : Option ℕ) → part_column row structure period tier part ≡ o → (column : ℕ) × IsPastCell row structure period (record { column = column; tier = tier; part = part })
    go None missing = let empty = rw missing at filled in absurd cc
    go (Some column) found = (column, record { past = past; column = found; filled = rw found at filled })

-- its column is one of the header
pub past_within : (row : Row) (structure : Structure) (period : ℕ) (cell : PartCell) → IsPastCell row structure period cell → cell.column < length row.header
past_within row structure period cell past =
    let says = past_says row structure period cell.column cell refl past in
    (position-Some (λ text. bytes_eq (text_at row cell.column) (str_to_ascii_lowercase text)) row.header cell.column [] says.first).0

-- the first filled part of a tier tells the tier's first filled cell
first_part : (row : Row) (structure : Structure) (period tier : ℕ) (part : Part) → is_filled (part_cell row structure period tier part) ≡ true
    → ((other : Part) → part_number other < part_number part → is_filled (part_cell row structure period tier other) ≡ false)
    → first_filled row structure period tier ≡ part_column row structure period tier part
unfolding first_filled
first_part row structure period tier Max filled none = rw filled refl
first_part row structure period tier Unit filled none = rw (none Max (omega arith), filled) refl
first_part row structure period tier Rate filled none = rw (none Max (omega arith), none Unit (omega arith), filled) refl
first_part row structure period tier Adj filled none = rw (none Max (omega arith), none Unit (omega arith), none Rate (omega arith), filled) refl
first_part row structure period tier Sell filled none =
    rw (none Max (omega arith), none Unit (omega arith), none Rate (omega arith), none Adj (omega arith), filled) refl

-- a tier of which a cell is filled is there
some_cell : (row : Row) (structure : Structure) (period tier : ℕ) (part : Part) → is_filled (part_cell row structure period tier part) ≡ true
    → has_tier row structure period tier ≡ true
some_cell row structure period tier part filled = elim (cases_Bool (has_tier row structure period tier)) [
  | inl there ↦ there
  | inr none ↦ let empty = no_cell row structure period tier none part in absurd cc
]

-- the first cell of all columns tells the least tier and the first of its cells
pub first_of_all : (row : Row) (structure : Structure) (period : ℕ) (first : Option PartCell) → IsFirstPast row structure period (length row.header) first
    → IsPastLastFound row structure period (option_map (λ (cell : PartCell). cell.column) first)
first_of_all row structure period None none = λ tier past.
    no_tier row structure period tier (λ part. elim (cases_Bool (is_filled (part_cell row structure period tier part))) [
      | inl filled ↦
          let cell = past_cell_of row structure period tier part past filled in
          absurd (none (record { column = cell.0; tier = tier; part = part }) (past_within row structure period _ cell.1) cell.1)
      | inr empty ↦ empty
    ])
first_of_all row structure period (Some first) is =
    let filled : is_filled (part_cell row structure period first.tier first.part) ≡ true = let column = is.0.column in rw column is.0.filled in
    let later : (tier : ℕ) (part : Part) → 16 ≤ tier → is_filled (part_cell row structure period tier part) ≡ true → order_of first ≤ tier * 5 + part_number part =
    λ tier part past full.
    let cell = past_cell_of row structure period tier part past full in
    is.1 (record { column = cell.0; tier = tier; part = part }) (past_within row structure period _ cell.1) cell.1 in (
      first.tier,
      is.0.past,
      some_cell row structure period first.tier first.part filled,
      λ other past less. no_tier row structure period other (λ part. elim (cases_Bool (is_filled (part_cell row structure period other part))) [
        | inl full ↦ absurd (omega (arith, later other part past full, part_below part))
        | inr empty ↦ empty
      ]),
      first_part row structure period first.tier first.part filled (λ part before. elim (cases_Bool (is_filled (part_cell row structure period first.tier part))) [
        | inl full ↦ absurd (omega (arith, later first.tier part is.0.past full))
        | inr empty ↦ empty
      ]) ∙ is.0.column,
    )

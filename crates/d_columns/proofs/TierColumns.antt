-- Which columns are those of tiers.
use Rattle.std.proofs.Common.{◌≡◌, ◌∙◌, ◌≤◌, ℕ, Bool, true, false, List, [], Some, bytes_eq, arith, refl, sym, inl, inr}
use Rattle.std.proofs.lemmas.Bool.{cases_Bool}
use Rattle.std.proofs.lemmas.List.Folds.{list_any_at}
use Rattle.std.proofs.lemmas.List.Quantifiers.{position-Some}
use Rattle.std.proofs.lemmas.Slice.Eq.{bytes_eq-Decides}
use Rattle.std.specs.List.{list_any, range_with_len}
use Rattle.std.specs.Str.{str_to_ascii_lowercase}
use Rattle.std.specs.Str.Parse.{digits_value}
use Rattle.d_table.specs.Table.{column_of}
use Rattle.d_columns.specs.declared.names.Structure.{Structure}
use Rattle.d_columns.specs.declared.names.Structure.TheVariants.{Energy, Demand, FlatDemand, Coincident}
use Rattle.d_columns.specs.declared.names.Part.{Part}
use Rattle.d_columns.specs.declared.names.Part.TheVariants.{Max, Unit, Rate, Adj, Sell}
use Rattle.d_columns.specs.Names.{tier_name, number_text, IsTierName, IsPastLast}
use Rattle.d_columns.specs.Tiers.{Row, has_part, part_column, parts}
use Rattle.d_columns.specs.Ignored.{is_column, is_tier_column, structures}
use Rattle.d_columns.proofs.IgnoredFacts.{column_is, number_passes, no_number_passes}
use Rattle.d_columns.proofs.IndexFacts.{text_at, Finds, is_read, found_same, found_there}

-- a part that passes, and none
any_part : (test : Part → Bool) (part : Part) → test part ≡ true → list_any test parts ≡ true
any_part test Max is = list_any_at test parts 0 Max (omega arith) is
any_part test Unit is = list_any_at test parts 1 Max (omega arith) is
any_part test Rate is = list_any_at test parts 2 Max (omega arith) is
any_part test Adj is = list_any_at test parts 3 Max (omega arith) is
any_part test Sell is = list_any_at test parts 4 Max (omega arith) is

no_part : (test : Part → Bool) → ((part : Part) → test part ≡ false) → list_any test parts ≡ false
no_part test none = rw (none Max, none Unit, none Rate, none Adj, none Sell) refl

-- a structure that passes, and none
any_structure : (test : Structure → Bool) (structure : Structure) → test structure ≡ true → list_any test structures ≡ true
any_structure test Energy is = list_any_at test structures 0 Energy (omega arith) is
any_structure test Demand is = list_any_at test structures 1 Energy (omega arith) is
any_structure test FlatDemand is = list_any_at test structures 2 Energy (omega arith) is
any_structure test Coincident is = list_any_at test structures 3 Energy (omega arith) is

no_structure : (test : Structure → Bool) → ((structure : Structure) → test structure ≡ false) → list_any test structures ≡ false
no_structure test none = rw (none Energy, none Demand, none FlatDemand, none Coincident) refl

-- whether the column is that of this part
abbrev is_part : Row → ℕ → Structure → ℕ → ℕ → Part → Bool
is_part row column structure period tier part = is_column column (part_column row structure period tier part)

-- of this tier, of this period, and of this structure
abbrev is_tier : Row → ℕ → Structure → ℕ → ℕ → Bool
is_tier row column structure period tier = list_any (is_part row column structure period tier) parts

abbrev is_period : Row → ℕ → Structure → ℕ → Bool
is_period row column structure period = list_any (is_tier row column structure period) (range_with_len 0 16)

abbrev is_structure : Row → ℕ → Structure → Bool
is_structure row column structure = list_any (is_period row column structure) (range_with_len 0 36)

-- a column of a part of a tier
part_passes : (row : Row) (column : ℕ) (structure : Structure) (period tier : ℕ) (part : Part) → period ≤ 35 → tier ≤ 15
    → is_part row column structure period tier part ≡ true → is_tier_column row column ≡ true
unfolding is_tier_column
part_passes row column structure period tier part few low is =
    any_structure (is_structure row column) structure
    (number_passes (is_period row column structure) 0 36 period (omega arith) (omega (arith, few))
    (number_passes (is_tier row column structure period) 0 16 tier (omega arith) (omega (arith, low))
    (any_part (is_part row column structure period tier) part is)))

-- and of none
no_part_passes : (row : Row) (column : ℕ)
    → ((structure : Structure) (period tier : ℕ) (part : Part) → period ≤ 35 → tier ≤ 15 → is_part row column structure period tier part ≡ true → ⊥)
    → is_tier_column row column ≡ false
unfolding is_tier_column
no_part_passes row column none =
    no_structure (is_structure row column) (λ structure.
    no_number_passes (is_period row column structure) 0 36 (λ period _ few.
    no_number_passes (is_tier row column structure period) 0 16 (λ tier _ low.
    no_part (is_part row column structure period tier) (λ part. elim (cases_Bool (is_part row column structure period tier part)) [
      | inl is ↦ absurd (none structure period tier part (omega (arith, few)) (omega (arith, low)) is)
      | inr other ↦ other
    ]))))

-- the column of a part of a tier has its name
named : (row : Row) (column : ℕ) (structure : Structure) (period tier : ℕ) (part : Part) → part_column row structure period tier part ≡ Some column
    → tier_name structure period tier part ≡ text_at row column
named row column structure period tier part is = elim (cases_Bool (has_part structure part)) [
  | inl has ↦
      let name = tier_name structure period tier part in
      let found : column_of name row.header ≡ Some column = rw has at is in
      let test = (position-Some (λ text. bytes_eq name (str_to_ascii_lowercase text)) row.header column [] found).1 in
      (bytes_eq-Decides name (text_at row column)).0 test
  | inr none ↦ let missing = rw none at is in absurd cc
]

-- a column whose name is none of a tier
pub unnamed : (row : Row) (column : ℕ)
    → ((structure : Structure) (period : ℕ) (digits : List ℕ) (part : Part) → IsTierName (text_at row column) structure period digits part → ⊥)
    → false ≡ is_tier_column row column
unnamed row column none =
    sym (no_part_passes row column (λ structure period tier part few low is.
    let name = named row column structure period tier part (column_is column (part_column row structure period tier part) is) in
    none structure period (number_text tier) part (is_read (text_at row column) structure period tier part few name)))

-- a column of a tier past the last
pub past_named : (row : Row) (column : ℕ) (s : Structure) (p : ℕ) (d : List ℕ) (q : Part) → Finds (text_at row column) s p d q → IsPastLast d
    → false ≡ is_tier_column row column
past_named row column s p d q finds past =
    sym (no_part_passes row column (λ structure period tier part few low is.
    let name = named row column structure period tier part (column_is column (part_column row structure period tier part) is) in
    let same = found_same (text_at row column) s p d q finds structure period tier part few name in
    omega (arith, past, low, same.2)))

-- a column of a tier's name is that tier's, or none's
pub own_part : (row : Row) (column : ℕ) (s : Structure) (p k : ℕ) (d : List ℕ) (q : Part) (result : Bool) → Finds (text_at row column) s p d q
    → k ≤ 15 → k ≡ digits_value 10 d → result ≡ is_column column (part_column row s p k q) → result ≡ is_tier_column row column
own_part row column s p k d q result finds low value is = elim (cases_Bool (is_part row column s p k q)) [
  | inl here ↦ is ∙ here ∙ sym (part_passes row column s p k q (found_there (text_at row column) s p d q finds) low here)
  | inr other ↦
      is ∙ other
      ∙ sym (no_part_passes row column (λ structure period tier part few least found.
      let name = named row column structure period tier part (column_is column (part_column row structure period tier part) found) in
      let same = found_same (text_at row column) s p d q finds structure period tier part few name in
      let number : k ≡ tier = value ∙ same.2 in
      let here : is_part row column s p k q ≡ true = rw (same.0, same.1, number, same.3) found in
      cc))
]

-- Where the columns of a row's tiers are.
use Rattle.std.specs.Prelude.{◌≡◌, ℕ, ◌+◌, ◌*◌, ◌≤◌, Bool, false, List, Option, None, Some, take, slice_index_or}
use Rattle.std.specs.Option.{option_or}
use Rattle.d_columns.specs.declared.names.Structure.{Structure}
use Rattle.d_columns.specs.declared.names.Part.{Part}
use Rattle.d_columns.specs.Names.{structure_number, part_number}
use Rattle.d_columns.specs.Tiers.{Row, part_column, has_tier}

-- the place of a period among the 36 of each structure
abbrev pub period_place : Structure → ℕ → ℕ
period_place structure period = structure_number structure * 36 + period

-- the place of a part among the 5 of each of the 16 tiers of each period
abbrev pub part_place : Structure → ℕ → ℕ → Part → ℕ
part_place structure period tier part = (period_place structure period * 16 + tier) * 5 + part_number part

-- what an index keeps: a column for each part of each tier, and a mark for each period
pub record Slots : Type 0 where
  pub columns : List (Option ℕ)
  pub marks : List Bool

-- the column that is kept for a part of a tier
abbrev pub column_at : Slots → Structure → ℕ → ℕ → Part → Option ℕ
column_at slots structure period tier part = slice_index_or slots.columns (part_place structure period tier part) None

-- the column that is kept for a part of a tier: the one that was, else this one
abbrev pub KeepsFirst : Slots → Slots → Structure → ℕ → ℕ → Part → ℕ → Type 0
KeepsFirst old new structure period tier part column =
    column_at new structure period tier part ≡ option_or (column_at old structure period tier part) (Some column)

-- whether a period is marked
abbrev pub is_marked : Slots → Structure → ℕ → Bool
is_marked slots structure period = slice_index_or slots.marks (period_place structure period) false

-- the row's first columns, so many of them
abbrev pub first_columns : ℕ → Row → Row
first_columns count row = record { header = take count row.header; cells = row.cells }

-- the slots have the column of each part of the tiers 0 to 15, and a mark for each period that has a tier past those
pub record IsIndexOf (row : Row) (slots : Slots) : Type 0 where
  pub columns : (structure : Structure) (period tier : ℕ) (part : Part) → period ≤ 35 → tier ≤ 15
      → column_at slots structure period tier part ≡ part_column row structure period tier part
  pub marks : (structure : Structure) (period : ℕ) → period ≤ 35 → is_marked slots structure period ≡ false
      → (tier : ℕ) → 16 ≤ tier → has_tier row structure period tier ≡ false

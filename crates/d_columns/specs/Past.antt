-- The first filled cell of a period's tiers past the last one that it has room for, which is 15.
use Rattle.std.specs.Prelude.{◌≡◌, ℕ, ◌+◌, ◌*◌, ◌<◌, ◌≤◌, nat_lt, true, false, Option, None, Some, if◌then◌else◌}
use Rattle.d_table.specs.Table.{cell_in}
use Rattle.d_columns.specs.declared.names.Structure.{Structure}
use Rattle.d_columns.specs.declared.names.Part.{Part}
use Rattle.d_columns.specs.declared.reading.TierName.{TierName}
use Rattle.d_columns.specs.Names.{part_number, IsPastLast}
use Rattle.d_columns.specs.Tiers.{Row, has_part, part_column, has_tier, first_filled, is_filled}

-- no tier past the last is there; or the least of those that are, and the column of the first of its cells that isn't empty
abbrev pub IsPastLastFound : Row → Structure → ℕ → Option ℕ → Type 0
IsPastLastFound row structure period None = (tier : ℕ) → 16 ≤ tier → has_tier row structure period tier ≡ false
IsPastLastFound row structure period (Some column) =
    (tier : ℕ)
    × (16 ≤ tier)
    × (has_tier row structure period tier ≡ true)
    × ((other : ℕ) → 16 ≤ other → other < tier → has_tier row structure period other ≡ false)
    × (first_filled row structure period tier ≡ Some column)

-- the name is that of a part of a tier past the last of the period
abbrev pub IsPastPart : Structure → ℕ → TierName → Type 0
IsPastPart structure period name =
    (name.structure ≡ structure) × (name.period ≡ period) × (has_part structure name.part ≡ true) × IsPastLast name.tier.now

-- a cell of a tier: its column, the tier's number and the part
pub record PartCell : Type 0 where
  pub column : ℕ
  pub tier : ℕ
  pub part : Part

-- the cell is one of a tier past the last of the period, and isn't empty
pub record IsPastCell (row : Row) (structure : Structure) (period : ℕ) (cell : PartCell) : Type 0 where
  pub past : 16 ≤ cell.tier
  pub column : part_column row structure period cell.tier cell.part ≡ Some cell.column
  pub filled : is_filled (cell_in row.cells cell.column) ≡ true

-- the order in which cells are looked at: by tiers, and by parts within a tier
abbrev pub order_of : PartCell → ℕ
order_of cell = cell.tier * 5 + part_number cell.part

-- the one of two cells that comes first
abbrev pub sooner : Option PartCell → Option PartCell → Option PartCell
sooner first None = first
sooner None (Some cell) = Some cell
sooner (Some first) (Some cell) = if nat_lt (order_of cell) (order_of first) then Some cell else Some first

-- of the cells in the first columns, so many of them, that are past the last tier, this one comes first; or there is none
abbrev pub IsFirstPast : Row → Structure → ℕ → ℕ → Option PartCell → Type 0
IsFirstPast row structure period count None = (cell : PartCell) → cell.column < count → IsPastCell row structure period cell → ⊥
IsFirstPast row structure period count (Some first) =
    IsPastCell row structure period first
    × ((cell : PartCell) → cell.column < count → IsPastCell row structure period cell → order_of first ≤ order_of cell)

-- The tiers that a record has: which cells they have, which tiers are there, and which are missing.
use Rattle.std.specs.Prelude.{◌≡◌, ℕ, zero, suc, ◌<◌, Bool, true, false, not, ◌&&◌, ◌||◌, nat_lt, if◌then◌else◌, List, [], ◌∷◌, Option, None, Some, option_and_then, find}
use Rattle.std.specs.List.{list_any}
use Rattle.d_table.specs.Table.{row_at, column_of}
use Rattle.d_columns.specs.declared.names.Structure.{Structure}
use Rattle.d_columns.specs.declared.names.Structure.TheVariants.{Energy, Demand, FlatDemand, Coincident}
use Rattle.d_columns.specs.declared.names.Part.{Part}
use Rattle.d_columns.specs.declared.names.Part.TheVariants.{Max, Unit, Rate, Adj, Sell}
use Rattle.d_columns.specs.Names.{tier_name, cell_at}

-- a row of cells under its header
pub record Row : Type 0 where
  pub header : List (List ℕ)
  pub cells : List (List ℕ)

-- a data row of a table, counted from 0
abbrev pub data_row : List (List (List ℕ)) → ℕ → Row
data_row rows row = record { header = row_at rows 0; cells = row_at rows (suc row) }

-- the cell in the column of that name; no bytes where there is no such column
abbrev pub named_cell : Row → List ℕ → List ℕ
named_cell row name = cell_at (column_of name row.header) row.cells

-- whether a cell isn't empty
abbrev pub is_filled : List ℕ → Bool
is_filled [] = false
is_filled (byte ∷ bytes) = true

-- the parts that the tiers of a structure have: units and sell rates are for energy alone, and tiers of coincident demand have no end
abbrev pub has_part : Structure → Part → Bool
has_part Energy part = true
has_part Demand Unit = false
has_part Demand Sell = false
has_part Demand part = true
has_part FlatDemand Unit = false
has_part FlatDemand Sell = false
has_part FlatDemand part = true
has_part Coincident Rate = true
has_part Coincident Adj = true
has_part Coincident part = false

-- the column of a part of a tier
abbrev pub part_column : Row → Structure → ℕ → ℕ → Part → Option ℕ
part_column row structure period tier part =
    if has_part structure part then column_of (tier_name structure period tier part) row.header else None

-- the cell of a part of a tier; no bytes where there is no such column
abbrev pub part_cell : Row → Structure → ℕ → ℕ → Part → List ℕ
part_cell row structure period tier part = cell_at (part_column row structure period tier part) row.cells

-- the parts in the order in which they are looked at
abbrev pub parts : List Part
parts = Max ∷ Unit ∷ Rate ∷ Adj ∷ Sell ∷ []

-- the first part of a tier whose cell isn't empty
abbrev pub first_part : Row → Structure → ℕ → ℕ → Option Part
first_part row structure period tier = find (λ part. is_filled (part_cell row structure period tier part)) parts

-- a tier is there where one of its cells isn't empty
unfoldable pub has_tier : Row → Structure → ℕ → ℕ → Bool
has_tier row structure period tier = list_any (λ part. is_filled (part_cell row structure period tier part)) parts

-- the column of the first of a tier's cells that isn't empty
unfoldable pub first_filled : Row → Structure → ℕ → ℕ → Option ℕ
first_filled row structure period tier =
    option_and_then (part_column row structure period tier) (first_part row structure period tier)

-- a tier is there and the one before it isn't; a period has room for 16 tiers (our own limit), so each from 16 on counts as such
unfoldable pub is_hole : Row → Structure → ℕ → ℕ → Bool
is_hole row structure period zero = false
is_hole row structure period (suc tier) =
    has_tier row structure period (suc tier) && (not (has_tier row structure period tier) || nat_lt 14 tier)

-- the least such tier; None where there is none
abbrev pub IsLeastHole : Row → Structure → ℕ → Option ℕ → Type 0
IsLeastHole row structure period None = (tier : ℕ) → is_hole row structure period tier ≡ false
IsLeastHole row structure period (Some least) =
    (is_hole row structure period least ≡ true) × ((tier : ℕ) → tier < least → is_hole row structure period tier ≡ false)

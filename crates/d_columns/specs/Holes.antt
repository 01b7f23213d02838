-- The least tier of a period that is there without the one before it.
use Rattle.std.specs.Prelude.{◌≡◌, ℕ, ◌≤◌, false, Option, None, Some}
use Rattle.d_columns.specs.declared.names.Structure.{Structure}
use Rattle.d_columns.specs.Tiers.{Row, first_filled, is_hole, IsLeastHole}

-- no tier is there without the one before it; or the column of the first filled cell of the least tier that is
abbrev pub IsHoleFound : Row → Structure → ℕ → Option ℕ → Type 0
IsHoleFound row structure period None = IsLeastHole row structure period None
IsHoleFound row structure period (Some column) =
    (tier : ℕ) × IsLeastHole row structure period (Some tier) × (first_filled row structure period tier ≡ Some column)

-- the least of the tiers 1 to 15 that is there without the one before it
abbrev pub IsInnerHole : Row → Structure → ℕ → Option ℕ → Type 0
IsInnerHole row structure period None = (tier : ℕ) → tier ≤ 15 → is_hole row structure period tier ≡ false
IsInnerHole row structure period (Some tier) = (tier ≤ 15) × IsLeastHole row structure period (Some tier)

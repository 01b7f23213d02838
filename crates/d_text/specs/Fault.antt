-- Why a cell is refused.
use Rattle.std.specs.Prelude.{◌≡◌, ℕ, ℤ, List, []}
use Rattle.d_text.specs.Decimal.{Written, IsDecimalText, IsFormFault, IsInLimit, IsUnits, IsRoundedDown}
use Rattle.d_text.specs.declared.decimal.DecimalFault.{DecimalFault}
use Rattle.d_text.specs.declared.decimal.DecimalFault.TheVariants.{Empty, Form, TooLarge, TooFine}

-- the cell is empty, or no decimal
abbrev pub IsTextFault : List ℕ → DecimalFault → Type 0
IsTextFault cell Empty = cell ≡ []
IsTextFault cell (Form place) = IsFormFault cell place
IsTextFault cell TooLarge = ⊥
IsTextFault cell TooFine = ⊥

-- why a decimal with so many places and that limit is refused
abbrev pub IsDecimalFault : List ℕ → ℕ → ℕ → DecimalFault → Type 0
IsDecimalFault cell places limit Empty = cell ≡ []
IsDecimalFault cell places limit (Form place) = IsFormFault cell place
IsDecimalFault cell places limit TooLarge = (w : Written) × IsDecimalText cell w × (IsInLimit w places limit → ⊥)
IsDecimalFault cell places limit TooFine = (w : Written) × IsDecimalText cell w × IsInLimit w places limit × ((units : ℤ) → IsUnits w places units → ⊥)

-- the cell is a decimal within the limit, of exactly so many units of 10^-places
pub record IsDecimalOf (cell : List ℕ) (places limit : ℕ) (units : ℤ) : Type 0 where
  pub written : Written
  pub form : IsDecimalText cell written
  pub within : IsInLimit written places limit
  pub value : IsUnits written places units

-- why such a decimal is refused where it is rounded down
abbrev pub IsFloorFault : List ℕ → ℕ → ℕ → DecimalFault → Type 0
IsFloorFault cell places limit Empty = cell ≡ []
IsFloorFault cell places limit (Form place) = IsFormFault cell place
IsFloorFault cell places limit TooLarge = (w : Written) × IsDecimalText cell w × (IsInLimit w places limit → ⊥)
IsFloorFault cell places limit TooFine = ⊥

-- the cell is a decimal within the limit, of so many units of 10^-places when it is rounded down
pub record IsFloorOf (cell : List ℕ) (places limit : ℕ) (units : ℤ) : Type 0 where
  pub written : Written
  pub form : IsDecimalText cell written
  pub within : IsInLimit written places limit
  pub value : IsRoundedDown written places units

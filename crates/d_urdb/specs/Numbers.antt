-- How the cells of a record are read: each in one way.
use Rattle.std.specs.Prelude.{◌≡◌, ◌≢◌, ◌⊎◌, ℕ, ◌^◌, ℤ, pos, Bool, true, false, List, [], Option, None, Some, Result, Ok, Err}
use Rattle.std.proofs.Math.ListN.{replicate}
use Rattle.d_text.specs.Decimal.{Written, IsDecimalText, IsFormFault, IsInLimit}
use Rattle.d_text.specs.Fault.{IsDecimalOf, IsDecimalFault, IsFloorOf}
use Rattle.d_text.specs.Grid.{IsGridOf, IsGridFault, IsListOf, IsListFault}
use Rattle.d_text.specs.declared.items.Span.{Span}
use Rattle.d_text.specs.declared.decimal.DecimalFault.{DecimalFault}
use Rattle.d_text.specs.declared.decimal.DecimalFault.TheVariants.{Empty, Form, TooLarge, TooFine}
use Rattle.d_columns.specs.declared.names.Structure.{Structure}
use Rattle.d_columns.specs.Tiers.{Row, IsLeastHole}

-- an amount of USD in units of 10^-18 USD, at most `limit` USD in size, or why the cell has none; a blank cell is 0
abbrev pub IsNumber : ℕ → List ℕ → Result ℤ DecimalFault → Type 0
IsNumber limit cell (Ok value) = ((cell ≡ []) × (value ≡ pos 0)) ⊎ IsDecimalOf cell 18 limit value
IsNumber limit cell (Err fault) = (cell ≢ []) × IsDecimalFault cell 18 limit fault

-- the cell is a decimal above the limit of a tier's end in size, with a minus or none
pub record IsBeyond (cell : List ℕ) (minus : Bool) : Type 0 where
  pub written : Written
  pub form : IsDecimalText cell written
  pub beyond : IsInLimit written 3 (10 ^ 10) → ⊥
  pub sign : written.minus ≡ minus

-- a tier's end in kWh or kW, in whole Wh or W, rounded down: one above 10^10 kWh means that the tier has no end (writers put 1e+38
-- there); a blank cell is 0
abbrev pub IsEnd : List ℕ → Result (Option ℤ) DecimalFault → Type 0
IsEnd cell (Ok (Some end)) = ((cell ≡ []) × (end ≡ pos 0)) ⊎ IsFloorOf cell 3 (10 ^ 10) end
IsEnd cell (Ok None) = IsBeyond cell false
IsEnd cell (Err Empty) = ⊥
IsEnd cell (Err (Form place)) = IsFormFault cell place
IsEnd cell (Err TooLarge) = IsBeyond cell true
IsEnd cell (Err TooFine) = ⊥

-- period 0 in each hour
abbrev pub zero_hours : List (List ℕ)
zero_hours = replicate 12 (replicate 24 0)

-- the periods of each month's hours, or the place at which the cell is no grid; a blank cell is period 0 everywhere
abbrev pub IsHours : List ℕ → Result (List (List ℕ)) ℕ → Type 0
IsHours cell (Ok rows) = ((cell ≡ []) × (rows ≡ zero_hours)) ⊎ IsGridOf cell rows
IsHours cell (Err place) = (cell ≢ []) × IsGridFault cell place

-- where the twelve items of a list stand, or the place at which the cell is no list
abbrev pub IsList : List ℕ → Result (List Span) ℕ → Type 0
IsList cell (Ok spans) = IsListOf cell spans
IsList cell (Err place) = IsListFault cell place

-- a way to read all cells
pub record CellReader : Type 0 where
  pub number : ℕ → List ℕ → Result ℤ DecimalFault
  pub end : List ℕ → Result (Option ℤ) DecimalFault
  pub hours : List ℕ → Result (List (List ℕ)) ℕ
  pub spans : List ℕ → Result (List Span) ℕ
  pub hole : Row → Structure → ℕ → Option ℕ

-- it reads each cell as that has to be read
pub record IsCellReader (reader : CellReader) : Type 0 where
  pub number_is : (limit : ℕ) (cell : List ℕ) → IsNumber limit cell (reader.number limit cell)
  pub end_is : (cell : List ℕ) → IsEnd cell (reader.end cell)
  pub hours_is : (cell : List ℕ) → IsHours cell (reader.hours cell)
  pub spans_is : (cell : List ℕ) → IsList cell (reader.spans cell)
  pub hole_is : (row : Row) (structure : Structure) (period : ℕ) → IsLeastHole row structure period (reader.hole row structure period)

-- a value is this, whichever way the cells are read
abbrev pub Reads : {A : Type 0} → (CellReader → A) → A → Type 0
Reads value_of value = (reader : CellReader) → IsCellReader reader → value ≡ value_of reader

-- there is one way to read all cells, and no other
pub record HasOneReader : Type 0 where
  pub reader : CellReader
  pub is_reader : IsCellReader reader
  pub only : (others : CellReader) → IsCellReader others → others ≡ reader

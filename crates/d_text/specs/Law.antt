-- What holds of all decimals, grids and lists.
use Rattle.std.specs.Prelude.{◌≡◌, ◌⊎◌, ℕ, ℤ, List}
use Rattle.d_text.specs.Decimal.{Written, IsDecimalText}
use Rattle.d_text.specs.Fault.{IsDecimalOf, IsDecimalFault, IsFloorOf, IsFloorFault}
use Rattle.d_text.specs.Grid.{IsGridOf, IsGridFault, IsListOf, IsListFault}
use Rattle.d_text.specs.declared.decimal.DecimalFault.{DecimalFault}
use Rattle.d_text.specs.declared.items.Span.{Span}

-- a text says at most one thing as a decimal
abbrev pub HasOneReading : Type 0
HasOneReading = (text : List ℕ) (w v : Written) → IsDecimalText text w → IsDecimalText text v → w ≡ v

-- the cell has exactly one value in units of 10^-places
abbrev pub HasOneValue : List ℕ → ℕ → ℕ → Type 0
HasOneValue cell places limit = (units : ℤ) × IsDecimalOf cell places limit units × ((other : ℤ) → IsDecimalOf cell places limit other → other ≡ units)

-- the cell has no value in units of 10^-places
abbrev pub HasNoValue : List ℕ → ℕ → ℕ → Type 0
HasNoValue cell places limit = (units : ℤ) → IsDecimalOf cell places limit units → ⊥

-- each cell has exactly one value or none, whatever the places and the limit
abbrev pub HasValueOrNone : Type 0
HasValueOrNone = (cell : List ℕ) (places limit : ℕ) → HasOneValue cell places limit ⊎ HasNoValue cell places limit

-- a cell is at most one grid
abbrev pub HasOneGrid : Type 0
HasOneGrid = (cell : List ℕ) (rows others : List (List ℕ)) → IsGridOf cell rows → IsGridOf cell others → rows ≡ others

-- a cell is at most one list of items
abbrev pub HasOneList : Type 0
HasOneList = (cell : List ℕ) (spans others : List Span) → IsListOf cell spans → IsListOf cell others → spans ≡ others

-- a cell has at most one value rounded down, whatever the places and the limit
abbrev pub HasOneFloor : Type 0
HasOneFloor = (cell : List ℕ) (places limit : ℕ) (units other : ℤ) → IsFloorOf cell places limit units → IsFloorOf cell places limit other → units ≡ other

-- a cell has exactly one value and no fault, or exactly one fault and no value
abbrev pub HasOneOutcome : {V F : Type 0} → (V → Type 0) → (F → Type 0) → Type 0
HasOneOutcome {V} {F} IsValue IsFault =
    ((value : V) × IsValue value × ((other : V) → IsValue other → other ≡ value) × ((fault : F) → IsFault fault → ⊥))
    ⊎ ((fault : F) × IsFault fault × ((other : F) → IsFault other → other ≡ fault) × ((value : V) → IsValue value → ⊥))

-- each cell has one value as a decimal, or one reason why it has none, and never both
abbrev pub HasValueOrFault : Type 0
HasValueOrFault = (cell : List ℕ) (places limit : ℕ) → HasOneOutcome (IsDecimalOf cell places limit) (IsDecimalFault cell places limit)

-- each cell has one value rounded down, or one reason why it has none, and never both
abbrev pub HasFloorOrFault : Type 0
HasFloorOrFault = (cell : List ℕ) (places limit : ℕ) → HasOneOutcome (IsFloorOf cell places limit) (IsFloorFault cell places limit)

-- each cell is one grid, or refused as one at one place, and never both
abbrev pub HasGridOrFault : Type 0
HasGridOrFault = (cell : List ℕ) → HasOneOutcome (IsGridOf cell) (IsGridFault cell)

-- each cell is one list of items, or refused as one at one place, and never both
abbrev pub HasListOrFault : Type 0
HasListOrFault = (cell : List ℕ) → HasOneOutcome (IsListOf cell) (IsListFault cell)

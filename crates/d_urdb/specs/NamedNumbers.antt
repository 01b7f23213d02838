-- Numbers in columns of one name.
use Rattle.std.specs.Prelude.{ℕ, ℤ, List, Option}
use Rattle.d_table.specs.Table.{column_of}
use Rattle.d_urdb.specs.declared.fault.Refused.{Refused}
use Rattle.d_urdb.specs.Numbers.{CellReader}
use Rattle.d_urdb.specs.Periods.{fault_refusal, number_or_0}
use Rattle.d_columns.specs.Tiers.{Row, named_cell}

-- the number in the column of that name; 0 where none can be read
abbrev pub named_number : CellReader → Row → ℕ → List ℕ → ℤ
named_number reader row limit name = number_or_0 (reader.number limit (named_cell row name))

-- 4: the number in the column of that name can't be read
abbrev pub name_refusal : CellReader → Row → ℕ → List ℕ → Option Refused
name_refusal reader row limit name = fault_refusal row (column_of name row.header) (reader.number limit (named_cell row name))

-- What a record's cells show as plain values.
use Rattle.d_columns.specs.declared.cells.Cells.{Cells}
use Rattle.d_columns.specs.Tiers.{Row, data_row}

-- the header and the cells
abbrev pub row_of : Cells → Row
row_of cells = data_row cells.table.now cells.row

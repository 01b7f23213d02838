use Rattle.std.proofs.Common.{◌≡◌, ◌++◌, take}
use Rattle.d_table.specs.Cells.{cells_of}
use Rattle.d_table.proofs.block.Block.add_row.Given as goal

abbrev pub invariant-loop-column : goal.invariant-loop-column
invariant-loop-column l = l.self ≡ l.fn.self ++ take l.column (cells_of l.row)

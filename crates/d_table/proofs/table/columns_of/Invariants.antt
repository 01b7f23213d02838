use Rattle.std.proofs.Common.{◌≡◌, ℕ, List, take, bytes_eq}
use Rattle.indexmap.specs.IndexMap.{get_by}
use Rattle.d_table.specs.Table.{column_of}
use Rattle.d_table.specs.Cells.{cells_of}
use Rattle.d_table.proofs.table.columns_of.Given as goal

abbrev pub invariant-loop-column : goal.invariant-loop-column
invariant-loop-column l = (name : List ℕ) → get_by (λ key. bytes_eq name key.items) l.columns ≡ column_of name (take l.column (cells_of l.fn.header))

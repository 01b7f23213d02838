use Rattle.std.proofs.Common.{◌≡◌, false, take}
use Rattle.std.specs.List.{list_any}
use Rattle.d_columns.specs.Ignored.{has_name}
use Rattle.d_columns.specs.Shown.{row_of}
use Rattle.d_columns.proofs.IgnoredFacts.{texts}
use Rattle.d_columns.proofs.cells.Cells.has_one_of.Given as goal

abbrev pub invariant-loop-place : goal.invariant-loop-place
invariant-loop-place l = list_any (has_name (row_of l.fn.self) l.fn.column) (take l.place (texts l.fn.names)) ≡ false

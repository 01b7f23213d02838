use Rattle.std.proofs.Common.{◌≡◌, filter}
use Rattle.std.specs.List.{range_with_len}
use Rattle.d_columns.specs.Ignored.{is_ignored}
use Rattle.d_urdb.specs.Shown.{row_of}
use Rattle.d_urdb.proofs.row.Record.ignored_columns.Given as goal

abbrev pub invariant-loop-column : goal.invariant-loop-column
invariant-loop-column l = l.ignored ≡ filter (is_ignored (row_of l.fn.self)) (range_with_len 0 l.column)

use Rattle.std.proofs.Common.{◌≡◌, ℕ, ◌<◌, false}
use Rattle.d_columns.specs.Ignored.{has_name}
use Rattle.d_columns.specs.MonthLists.{month_name}
use Rattle.d_columns.specs.Shown.{row_of}
use Rattle.d_columns.proofs.cells.Cells.is_one_of_twelve.Given as goal

abbrev pub invariant-loop-month : goal.invariant-loop-month
invariant-loop-month l = (month : ℕ) → month < l.month → has_name (row_of l.fn.self) l.fn.column (month_name l.fn.list month) ≡ false

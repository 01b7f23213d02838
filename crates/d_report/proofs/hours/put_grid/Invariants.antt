use Rattle.std.proofs.Common.{◌≡◌, ◌++◌}
use Rattle.d_report.specs.Tariffs.{month_line}
use Rattle.d_report.specs.Lines.{texts_of}
use Rattle.d_report.proofs.hours.put_grid.Given as goal

-- the lines so far
abbrev pub invariant-loop-month : goal.invariant-loop-month
invariant-loop-month l = l.text.items ≡ l.fn.text.items ++ texts_of l.month (month_line l.word l.grid)

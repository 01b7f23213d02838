use Rattle.std.proofs.Common.{◌≡◌, ◌++◌, slice_index}
use Rattle.d_report.specs.Tariffs.{ignored_line}
use Rattle.d_report.specs.Lines.{texts_of}
use Rattle.d_report.proofs.tariff.put_ignored.Given as goal

-- the lines so far
abbrev pub invariant-loop-column : goal.invariant-loop-column
invariant-loop-column l = l.text.items ≡ l.fn.text.items ++ texts_of l.column-index (λ place. ignored_line l.table (slice_index l.columns place))

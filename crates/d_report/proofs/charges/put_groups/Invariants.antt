use Rattle.std.proofs.Common.{◌≡◌, ◌++◌}
use Rattle.d_report.specs.Lines.{texts_of}
use Rattle.d_report.specs.Charges.{group_at_line}
use Rattle.d_report.proofs.charges.put_groups.Given as goal

-- the lines so far
abbrev pub invariant-loop-group : goal.invariant-loop-group
invariant-loop-group l = l.text.items ≡ l.fn.text.items ++ texts_of l.group (group_at_line l.problem l.tally)

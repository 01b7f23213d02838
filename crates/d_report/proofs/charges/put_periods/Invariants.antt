use Rattle.std.proofs.Common.{◌≡◌, ◌++◌}
use Rattle.d_tariff.specs.Terms.{period_at}
use Rattle.d_report.specs.Lines.{texts_of}
use Rattle.d_report.specs.Charges.{period_at_line}
use Rattle.d_report.proofs.charges.put_periods.Given as goal

-- the lines so far
abbrev pub invariant-loop-period : goal.invariant-loop-period
invariant-loop-period l =
    l.text.items ≡ l.fn.text.items ++ texts_of l.period (λ number. period_at_line l.problem l.tally number (period_at l.problem.energy number))

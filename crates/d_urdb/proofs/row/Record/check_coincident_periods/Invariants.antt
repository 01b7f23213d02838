use Rattle.d_urdb.specs.Checks.{Passes}
use Rattle.d_urdb.specs.Refusals.{each}
use Rattle.d_urdb.specs.Shown.{row_of}
use Rattle.d_urdb.proofs.CoincidentFacts.{by_period}
use Rattle.d_urdb.proofs.row.Record.check_coincident_periods.Given as goal

abbrev pub invariant-loop-period : goal.invariant-loop-period
invariant-loop-period l = Passes (λ reader. each l.period (by_period l.fn.rule (row_of l.fn.self) reader))

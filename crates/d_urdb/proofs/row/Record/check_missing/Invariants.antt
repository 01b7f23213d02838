use Rattle.std.proofs.Common.{[], ◌∷◌}
use Rattle.d_urdb.specs.Shown.{row_of}
use Rattle.d_urdb.specs.Refusals.{each}
use Rattle.d_urdb.specs.Checks.{Passes}
use Rattle.d_urdb.specs.Hours.{missing_refusal}
use Rattle.d_urdb.proofs.row.Record.check_missing.Given as goal

abbrev pub invariant-loop-period : goal.invariant-loop-period
invariant-loop-period l = Passes (λ reader. each l.period (λ period. missing_refusal (row_of l.fn.self) l.fn.weekday l.fn.weekend period ∷ []))

use Rattle.std.proofs.Common.{[], ◌∷◌}
use Rattle.d_urdb.specs.Checks.{Passes}
use Rattle.d_urdb.specs.Ratchets.{fraction_refusal}
use Rattle.d_urdb.specs.Refusals.{each}
use Rattle.d_urdb.specs.Shown.{row_of}
use Rattle.d_urdb.proofs.row.Record.check_fractions.Given as goal

abbrev pub invariant-loop-month : goal.invariant-loop-month
invariant-loop-month l = Passes (λ reader. each l.month (λ month. fraction_refusal reader (row_of l.fn.self) month ∷ []))

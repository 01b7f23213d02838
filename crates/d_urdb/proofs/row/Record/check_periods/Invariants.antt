use Rattle.std.proofs.Common.{ℕ, ◌<◌}
use Rattle.d_urdb.specs.Shown.{row_of}
use Rattle.d_urdb.specs.Refusals.{each}
use Rattle.d_urdb.specs.Periods.{period_refusals}
use Rattle.d_urdb.specs.Checks.{Passes}
use Rattle.d_urdb.specs.Values.{HasRisingEnds, HasSoundTiers}
use Rattle.d_urdb.proofs.row.Record.check_periods.Given as goal

abbrev pub invariant-loop-period : goal.invariant-loop-period
invariant-loop-period l = record {
  passes : Passes (λ reader. each l.period (period_refusals reader (row_of l.fn.self) l.fn.structure));
  rising : (period : ℕ) → period < l.period → HasRisingEnds (row_of l.fn.self) l.fn.structure period;
  prices : (period : ℕ) → period < l.period → HasSoundTiers (row_of l.fn.self) l.fn.structure period;
}

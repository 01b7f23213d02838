use Rattle.std.proofs.Common.{◌≡◌, ◌≤◌, [], ◌∷◌, length, All}
use Rattle.d_urdb.specs.Checks.{Passes}
use Rattle.d_urdb.specs.FlatMonths.{month_refusal, flat_month}
use Rattle.d_urdb.specs.Numbers.{CellReader, IsCellReader}
use Rattle.d_urdb.specs.Refusals.{each}
use Rattle.d_urdb.specs.Shown.{row_of}
use Rattle.d_urdb.proofs.MonthLoops.{AreFirst}
use Rattle.d_urdb.proofs.row.Record.periods_of.Given as goal

abbrev pub invariant-loop-month : goal.invariant-loop-month
invariant-loop-month l =
    Passes (λ reader. each l.month (λ month. month_refusal reader (row_of l.fn.self) month ∷ []))
    × ((reader : CellReader) → IsCellReader reader → AreFirst (flat_month reader (row_of l.fn.self)) 0 l.month l.months)
    × All (λ period. period ≤ 35) l.months
    × (length l.months ≡ 12)

use Rattle.std.proofs.Common.{◌≡◌, ◌≤◌, ◌^◌, length, All}
use Rattle.d_urdb.specs.Numbers.{CellReader, IsCellReader}
use Rattle.d_urdb.specs.Ratchets.{ratchet_of}
use Rattle.d_urdb.specs.Shown.{row_of}
use Rattle.d_urdb.proofs.MonthLoops.{AreFirst}
use Rattle.d_urdb.proofs.row.Record.fractions.Given as goal

abbrev pub invariant-loop-month : goal.invariant-loop-month
invariant-loop-month l =
    ((reader : CellReader) → IsCellReader reader → AreFirst (ratchet_of reader (row_of l.fn.self)) 0 l.month l.fractions)
    × All (λ fraction. fraction ≤ 10 ^ 20) l.fractions
    × (length l.fractions ≡ 12)

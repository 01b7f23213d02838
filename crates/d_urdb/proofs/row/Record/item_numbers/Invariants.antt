use Rattle.std.proofs.Common.{◌≡◌, ◌*◌, ◌^◌, [], ◌∷◌, pos, length, All}
use Rattle.d_num.specs.Amount.{IsWithin}
use Rattle.d_urdb.specs.Checks.{Passes}
use Rattle.d_urdb.specs.Items.{item_number}
use Rattle.d_urdb.specs.Months.{item_refusal}
use Rattle.d_urdb.specs.Numbers.{CellReader, IsCellReader}
use Rattle.d_urdb.specs.Refusals.{each}
use Rattle.d_urdb.specs.Shown.{row_of}
use Rattle.d_urdb.proofs.MonthLoops.{AreFirst}
use Rattle.d_urdb.proofs.row.Record.item_numbers.Given as goal

abbrev pub invariant-loop-month : goal.invariant-loop-month
invariant-loop-month l =
    Passes (λ reader. each l.month (λ month. item_refusal reader (row_of l.fn.self) l.fn.items.list l.fn.limit month ∷ []))
    × ((reader : CellReader) → IsCellReader reader → AreFirst (item_number reader (row_of l.fn.self) l.fn.items.list l.fn.limit) (pos 0) l.month l.numbers)
    × All (IsWithin (l.fn.limit * 10 ^ 18)) l.numbers
    × (length l.numbers ≡ 12)

-- A row of a day, lent for writing.
use Rattle.std.specs.Prelude.{ℕ, List}
use Rattle.std.specs.Borrow.{Lends, Array, MutBor, Fml}
use Rattle.d_num.specs.declared.pot.Pot.{Pot}
use Rattle.d_rows.specs.contracts.packed.Packed.{the_row as packed_row}
use Rattle.d_rows.specs.contracts.days.DayLayers.{the_row}
use Rattle.d_rows.specs.Days.{DayRows, with_day_row}

-- the layers end with what was written through r as row i of that day, and with every other row as it was
abbrev pub LendsDayRow : MutBor DayRows → ℕ → ℕ → MutBor (List Pot) → Fml
LendsDayRow layers day i r = Lends the_row (Array packed_row 0) layers r (with_day_row layers.now day i)

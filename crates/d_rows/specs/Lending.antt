-- One of several rows, lent for writing.
use Rattle.std.specs.Prelude.{ℕ, List}
use Rattle.std.specs.Borrow.{Lends, Array, MutBor, Fml}
use Rattle.d_num.specs.declared.pot.Pot.{Pot}
use Rattle.d_rows.specs.contracts.packed.Packed.{the_row as packed_row}
use Rattle.d_rows.specs.contracts.rows.Rows.{the_row}
use Rattle.d_rows.specs.Blocks.{with_row}

-- the rows end with what was written through r as their row t, and with every other row as it was
abbrev pub LendsRow : MutBor (List (List Pot)) → ℕ → MutBor (List Pot) → Fml
LendsRow rows t r = Lends the_row (Array packed_row 0) rows r (with_row rows.now t)

-- A cell is read in at most one way.
use Rattle.std.proofs.Common.{◌≡◌, ◌^◌, ℕ, ℤ, List, Option, None, Some, Result, Ok, Err, IfNone, IfSome, IfOk, IfErr, refl, ap}
use Rattle.d_cal.specs.declared.start.Start.{Start}
use Rattle.d_cal.specs.Starts.{IsStart}
use Rattle.d_cal.proofs.StartLaws.{start_once}
use Rattle.d_text.specs.Fault.{IsDecimalOf, IsDecimalFault}
use Rattle.d_text.specs.declared.decimal.DecimalFault.{DecimalFault}
use Rattle.d_text.proofs.OnceLaws.{fault_once}
use Rattle.d_text.proofs.DecimalLaws.{decimal_same}
use Rattle.d_text.proofs.FaultLaws.{decimal_refused}
use Rattle.d_meter.specs.Readings.{MeterReader, IsMeterReader, IsStartOrNone, IsNetOrFault}

pub cell_start_once : (cell : List ℕ) (a b : Option Start) → IsStartOrNone cell a → IsStartOrNone cell b → a ≡ b
cell_start_once cell None None one other = refl
cell_start_once cell None (Some start) one other = absurd (one start other)
cell_start_once cell (Some start) None one other = absurd (other start one)
cell_start_once cell (Some start) (Some start') one other = ap (λ s. Some s) (start_once cell start start' one other)

pub net_once : (cell : List ℕ) (a b : Result ℤ DecimalFault) → IsNetOrFault cell a → IsNetOrFault cell b → a ≡ b
net_once cell (Ok u) (Ok v) one other = ap (λ n. Ok n) (decimal_same cell 0 (10 ^ 9) u v one other)
net_once cell (Ok u) (Err f) one other = absurd (decimal_refused cell 0 (10 ^ 9) f u other one)
net_once cell (Err f) (Ok v) one other = absurd (decimal_refused cell 0 (10 ^ 9) f v one other)
net_once cell (Err f) (Err g) one other = ap (λ f. Err f) (fault_once cell 0 (10 ^ 9) f g one other)

-- so what was read of a cell is what every reader reads
module _ (reader : MeterReader) (are : IsMeterReader reader) (cell : List ℕ) where
  pub cell_start_read : (read : Option Start) → IfNone read ((start : Start) → IsStart cell start → ⊥) → IfSome read (IsStart cell) → reader.start cell ≡ read
  cell_start_read None none some = cell_start_once cell (reader.start cell) None (are.start_is cell) none
  cell_start_read (Some start) none some = cell_start_once cell (reader.start cell) (Some start) (are.start_is cell) some

  pub net_read : (read : Result ℤ DecimalFault) → IfOk read (IsDecimalOf cell 0 (10 ^ 9)) → IfErr read (IsDecimalFault cell 0 (10 ^ 9)) → reader.net cell ≡ read
  net_read (Ok net) value fault = net_once cell (reader.net cell) (Ok net) (are.net_is cell) value
  net_read (Err f) value fault = net_once cell (reader.net cell) (Err f) (are.net_is cell) fault

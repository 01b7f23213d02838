-- Each cell is read in exactly one way, and so each table has exactly one outcome.
use Rattle.std.proofs.Common.{◌≡◌, ◌⊎◌, inl, inr, ◌^◌, ℕ, ℤ, List, Option, None, Some, Result, Ok, Err, sym, ap}
use Rattle.std.proofs.Math.Path.{fun_ext}
use Rattle.d_cal.specs.declared.start.Start.{Start}
use Rattle.d_cal.specs.Starts.{IsStart}
use Rattle.d_cal.proofs.StartFound.{start_found}
use Rattle.d_text.specs.Fault.{IsDecimalOf, IsDecimalFault}
use Rattle.d_text.specs.declared.decimal.DecimalFault.{DecimalFault}
use Rattle.d_text.proofs.OutcomeLaws.{decimal_outcome}
use Rattle.d_meter.specs.Readings.{MeterReader, IsMeterReader, IsStartOrNone, IsNetOrFault, outcome_of}
use Rattle.d_meter.specs.Law.{HasOneReader, HasOneOutcome}
use Rattle.d_meter.proofs.CellFacts.{cell_start_once, net_once}

cell_start_found : (cell : List ℕ) → (start : Option Start) × IsStartOrNone cell start
cell_start_found cell = by_start (start_found cell)
  where
    by_start : ((start : Start) × IsStart cell start) ⊎ ((start : Start) → IsStart cell start → ⊥) → (start : Option Start) × IsStartOrNone cell start
    by_start (inl found) = (Some found.0, found.1)
    by_start (inr none) = (None, none)

net_found : (cell : List ℕ) → (net : Result ℤ DecimalFault) × IsNetOrFault cell net
net_found cell = by_outcome (decimal_outcome cell 0 (10 ^ 9))
  where
    by_outcome : ((units : ℤ) × IsDecimalOf cell 0 (10 ^ 9) units) ⊎ ((fault : DecimalFault) × IsDecimalFault cell 0 (10 ^ 9) fault)
        → (net : Result ℤ DecimalFault) × IsNetOrFault cell net
    by_outcome (inl value) = (Ok value.0, value.1)
    by_outcome (inr fault) = (Err fault.0, fault.1)

-- the reader that is found
found : MeterReader
found = record { start = λ cell. (cell_start_found cell).0; net = λ cell. (net_found cell).0 }

is_found : IsMeterReader found
unfolding found
is_found = record { start_is = λ cell. (cell_start_found cell).1; net_is = λ cell. (net_found cell).1 }

-- readers are the same where both their functions are
same_readers : (a b : MeterReader) → a.start ≡ b.start → a.net ≡ b.net → a ≡ b
same_readers a b start net = λ i. record { start = start i; net = net i }

reader_once : (a b : MeterReader) → IsMeterReader a → IsMeterReader b → a ≡ b
reader_once a b are are_too = same_readers a b
    (fun_ext (λ cell. cell_start_once cell (a.start cell) (b.start cell) (are.start_is cell) (are_too.start_is cell)))
    (fun_ext (λ cell. net_once cell (a.net cell) (b.net cell) (are.net_is cell) (are_too.net_is cell)))

pub one_reader : HasOneReader
one_reader = record { reader = found; is_reader = is_found; only = λ others are. reader_once others found are is_found }

-- each table has one outcome
pub one_outcome : HasOneOutcome
one_outcome rows = (
  outcome_of one_reader.reader rows,
  λ reader are. ap (λ (r : MeterReader). outcome_of r rows) (sym (one_reader.only reader are)),
  λ other is. is one_reader.reader one_reader.is_reader,
)

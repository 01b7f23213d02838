-- Each cell is read in exactly one way.
use Rattle.std.proofs.Common.{◌≡◌, ◌⊎◌, inl, inr, ℕ, ◌^◌, ℤ, List, Result, Ok, Err, refl, ap, ◌∙◌}
use Rattle.std.proofs.Math.Path.{fun_ext}
use Rattle.d_text.specs.Fault.{IsDecimalOf, IsDecimalFault}
use Rattle.d_text.specs.declared.decimal.DecimalFault.{DecimalFault}
use Rattle.d_text.proofs.OnceLaws.{fault_once}
use Rattle.d_text.proofs.DecimalLaws.{decimal_same}
use Rattle.d_text.proofs.FaultLaws.{decimal_refused}
use Rattle.d_text.proofs.OutcomeLaws.{decimal_outcome}
use Rattle.d_batt.specs.Numbers.{IsWhole, Reader, IsReader, HasOneReader}
use Rattle.d_batt.specs.BatteryFile.{battery_outcome}
use Rattle.d_batt.specs.Law.{HasOneOutcome}

-- a cell is read in at most one way
pub whole_once : (cell : List ℕ) (a b : Result ℤ DecimalFault) → IsWhole cell a → IsWhole cell b → a ≡ b
whole_once cell (Ok y) (Ok z) one other = ap Ok (decimal_same cell 0 (10 ^ 10) y z one other)
whole_once cell (Ok y) (Err f) one other = absurd (decimal_refused cell 0 (10 ^ 10) f y other one)
whole_once cell (Err f) (Ok z) one other = absurd (decimal_refused cell 0 (10 ^ 10) f z one other)
whole_once cell (Err f) (Err g) one other = ap Err (fault_once cell 0 (10 ^ 10) f g one other)

-- and in one
whole_found : (cell : List ℕ) → (r : Result ℤ DecimalFault) × IsWhole cell r
whole_found cell = by_outcome (decimal_outcome cell 0 (10 ^ 10))
  where
    by_outcome : ((units : ℤ) × IsDecimalOf cell 0 (10 ^ 10) units) ⊎ ((fault : DecimalFault) × IsDecimalFault cell 0 (10 ^ 10) fault)
        → (r : Result ℤ DecimalFault) × IsWhole cell r
    by_outcome (inl value) = (Ok value.0, value.1)
    by_outcome (inr fault) = (Err fault.0, fault.1)

-- what a cell says is what each reader reads
pub as_read : (cell : List ℕ) (number : Result ℤ DecimalFault) → IsWhole cell number → (reader : Reader) → IsReader reader → number ≡ reader cell
as_read cell number is reader are = whole_once cell number (reader cell) is (are cell)

pub one_reader : HasOneReader
one_reader = record {
  reader = λ cell. (whole_found cell).0;
  is_reader = λ cell. (whole_found cell).1;
  only = λ other are. fun_ext (λ cell. whole_once cell (other cell) (whole_found cell).0 (are cell) (whole_found cell).1);
}

-- each file has one outcome
pub one_outcome : HasOneOutcome
one_outcome rows = (
  battery_outcome one_reader.reader rows,
  (one_reader.reader, one_reader.is_reader, refl),
  λ other is. is.2 ∙ ap (λ (reader : Reader). battery_outcome reader rows) (one_reader.only is.0 is.1),
)

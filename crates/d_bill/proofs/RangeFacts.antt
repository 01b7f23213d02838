-- What a problem keeps, interval by interval.
use Rattle.std.proofs.Common.{ℕ, ◌<◌, length, arith}
use Rattle.d_bill.specs.Inputs.{Inputs, IsInRange, period_in}

-- an interval's period has a number below 36
pub period_below : (i : Inputs) → IsInRange i → (t : ℕ) → t < length i.net → period_in i t < 36
period_below i fine t inside = fine.periods t 0 (let long = fine.periods_long in omega arith)

-- What a month's charges and floor come to stays in range.
use Rattle.std.proofs.Common.{ℕ, ℤ, pos, negsuc, ◌+◌, ◌*◌, ◌/◌, ◌^◌, ◌<◌, ◌≤◌, arith, mul-le-mul, mul-le-mul_right}
use Rattle.std.proofs.lemmas.Int.{ints}
use Rattle.std.proofs.lemmas.Nat.{div_below}
use Rattle.jiff_core.specs.Calendar.{days_in_month}
use Rattle.jiff_core.proofs.CalendarLemmas.{days_in_month_bounds}
use Rattle.d_num.specs.Amount.{IsWithin}
use Rattle.d_num.proofs.Products.{product_within}
use Rattle.d_tariff.specs.declared.charge.ChargeUnit.{ChargeUnit}
use Rattle.d_tariff.specs.declared.charge.ChargeUnit.TheVariants.{Day, Month, Year}
use Rattle.d_tariff.specs.Months.{month_amount}

-- a month's charge is at most 31 times the amount in size
pub month_within : (unit : ChargeUnit) (amount year : ℤ) (number : ℕ) → IsWithin (10 ^ 30) amount
    → IsWithin (31 * 10 ^ 30) (month_amount unit amount year number)
month_within Day amount year number h =
    let days = (days_in_month_bounds year number).0 in
    let within : IsWithin 31 (pos (days_in_month year number)) = (omega (arith, ints), omega (arith, ints)) in
    let product = product_within (10 ^ 30) 31 amount (pos (days_in_month year number)) h within in
    (omega (arith, ints, product.0), omega (arith, ints, product.1))
month_within Month amount year number h = (omega (arith, ints, h.0), omega (arith, ints, h.1))
month_within Year (pos n) year number h = (omega (arith, ints, h.1), omega (arith, ints, h.1))
month_within Year (negsuc n) year number h = (omega (arith, ints, h.0), omega (arith, ints, h.0))

-- a fraction, in units of 10^-20, of a power
pub record IsShare (fraction power : ℕ) : Type 0 where
  pub product : fraction * power ≤ 10 ^ 33
  pub most : fraction * power / 10 ^ 20 ≤ power

pub share_is : (fraction power : ℕ) → fraction ≤ 10 ^ 20 → power ≤ 10 ^ 13 → IsShare fraction power
share_is fraction power part small =
    let both : fraction * power ≤ 10 ^ 20 * 10 ^ 13 = mul-le-mul part small in
    let one : fraction * power ≤ 10 ^ 20 * power = mul-le-mul_right power part in
    let under : fraction * power / 10 ^ 20 < power + 1 = div_below (fraction * power) (10 ^ 20) (power + 1) (omega arith) (omega arith) in
    record { product = omega arith; most = omega arith }

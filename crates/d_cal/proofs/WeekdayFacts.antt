-- A weekday counted from Monday, and the days from a Saturday modulo 7.
use Rattle.std.proofs.Common.{◌≡◌, ◌↔◌, ℕ, ℤ, pos, ◌+◌, ◌%◌, ◌-ℤ◌, ◌≤◌, arith, unsigned_abs, ap}
use Rattle.std.specs.Int.{int_rem_euclid}
use Rattle.jiff_core.specs.Calendar.{days_from_civil, weekday_number}
use Rattle.jiff_core.proofs.StandardFacts.{known_days}
use Rattle.jiff_core.proofs.CalendarLemmas.{weekday_number-parts, weekday_number_bound}
use Rattle.jiff_core.proofs.SignedLemmas.{int_rem_euclid-parts, signed_arith}
use Rattle.d_cal.specs.Calendar.{IsWeekend, days_after_saturday}

-- day 10957 was a Saturday, and a weekday counts from Monday
rem-from_saturday : (w z : ℤ) → w ≡ z -ℤ pos 10957 → int_rem_euclid w (pos 7) ≡ pos ((weekday_number z + 2) % 7)
rem-from_saturday w z e = omega (arith, signed_arith, int_rem_euclid-parts w 7 (omega arith), weekday_number-parts z)

days_after_saturday-weekday : (y : ℤ) (m d : ℕ) → days_after_saturday y m d ≡ (weekday_number (days_from_civil y m d) + 2) % 7
days_after_saturday-weekday y m d =
    ap unsigned_abs (rem-from_saturday _ (days_from_civil y m d) (ap (λ (z : ℤ). days_from_civil y m d -ℤ z) known_days.2))

pub weekend_is : (y : ℤ) (m d : ℕ) → IsWeekend y m d ↔ (5 ≤ weekday_number (days_from_civil y m d))
weekend_is y m d =
    let e = days_after_saturday-weekday y m d in
    let b = weekday_number_bound (days_from_civil y m d) in
    grind (arith, e, b)

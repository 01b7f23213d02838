-- Months and weekends of the Gregorian calendar.
use Rattle.std.specs.Prelude.{Bool, ◌==◌, ◌||◌, IsTrue, ℕ, ℤ, pos, unsigned_abs, ◌-ℤ◌, ◌≤◌, ◌≤ℤ◌}
use Rattle.std.specs.Int.{int_rem_euclid}
use Rattle.jiff_core.specs.Calendar.{days_in_month, days_from_civil}

-- a year from 1 to 9999 and a month from 1, which is January, to 12 (our own limit on years)
pub record IsMonth (year : ℤ) (number : ℕ) : Type 0 where
  pub after_year_0 : pos 1 ≤ℤ year
  pub before_year_10000 : year ≤ℤ pos 9999
  pub from_january : 1 ≤ number
  pub to_december : number ≤ 12

-- the month has this day
pub record IsDayOf (year : ℤ) (number day : ℕ) : Type 0 where
  pub from_first : 1 ≤ day
  pub to_last : day ≤ days_in_month year number

-- the days from 2000-01-01, which was a Saturday, to this day, modulo 7: 0 on a Saturday, 1 on a Sunday
abbrev pub days_after_saturday : ℤ → ℕ → ℕ → ℕ
days_after_saturday year number day =
    unsigned_abs (int_rem_euclid (days_from_civil year number day -ℤ days_from_civil (pos 2000) 1 1) (pos 7))

-- Saturday and Sunday are the weekend, as SAM has it
abbrev pub is_weekend : ℤ → ℕ → ℕ → Bool
is_weekend year number day = (days_after_saturday year number day == 0) || (days_after_saturday year number day == 1)

-- the same as a fact
abbrev pub IsWeekend : ℤ → ℕ → ℕ → Type 0
IsWeekend year number day = IsTrue (is_weekend year number day)

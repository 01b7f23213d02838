-- The starts of a month's intervals, as files and plans write them. Dates and times are those of ISO 8601; which forms are taken is our own.
use Rattle.std.specs.Prelude.{◌≡◌, ◌⊎◌, ℕ, ◌+◌, ◌*◌, ◌/◌, ◌%◌, ◌<◌, ℤ, unsigned_abs, List, [], ◌∷◌, ◌++◌, codes}
use Rattle.d_text.specs.Text.{zero_padded}
use Rattle.d_cal.specs.Calendar.{IsMonth, IsDayOf}
use Rattle.d_cal.specs.declared.start.Start.{Start}

-- YYYY-MM
abbrev pub month_text : ℤ → ℕ → List ℕ
month_text year number = zero_padded 4 (unsigned_abs year) ++ 45 ∷ zero_padded 2 number

-- YYYY-MM-DD
abbrev pub date_text : ℤ → ℕ → ℕ → List ℕ
date_text year number day = month_text year number ++ 45 ∷ zero_padded 2 day

-- HH:MM
abbrev pub time_text : ℕ → List ℕ
time_text minute = zero_padded 2 (minute / 60) ++ 58 ∷ zero_padded 2 (minute % 60)

-- YYYY-MM-DDTHH:MM
abbrev pub text_of : Start → List ℕ
text_of start = date_text start.year start.month start.day ++ 84 ∷ time_text start.minute

-- a minute of a day of the calendar
pub record IsInCalendar (start : Start) : Type 0 where
  pub month : IsMonth start.year start.month
  pub day : IsDayOf start.year start.month start.day
  pub minute : start.minute < 1440

-- the cell is a date, T or one space, a time, and perhaps :00
pub record IsMoment (cell date time : List ℕ) : Type 0 where
  pub between : ℕ
  pub seconds : List ℕ
  pub form : cell ≡ date ++ between ∷ (time ++ seconds)
  pub between_is : (between ≡ 84) ⊎ (between ≡ 32)
  pub seconds_are : (seconds ≡ []) ⊎ (seconds ≡ codes ":00")

-- the cell is this start
pub record IsStart (cell : List ℕ) (start : Start) : Type 0 where
  pub in_calendar : IsInCalendar start
  pub moment : IsMoment cell (date_text start.year start.month start.day) (time_text start.minute)

-- the day of the month, from 1, on which interval t starts, where intervals are so many minutes long
abbrev pub start_day : ℕ → ℕ → ℕ
start_day minutes t = t * minutes / 1440 + 1

-- the minute of that day, from 0
abbrev pub start_minute : ℕ → ℕ → ℕ
start_minute minutes t = t * minutes % 1440

-- the start of interval t of the month
abbrev pub start_of : ℤ → ℕ → ℕ → ℕ → Start
start_of year number minutes t = record { year = year; month = number; day = start_day minutes t; minute = start_minute minutes t }

-- a cell is one start at most
abbrev pub HasOneStart : Type 0
HasOneStart = (cell : List ℕ) (start other : Start) → IsStart cell start → IsStart cell other → start ≡ other

-- A month of net meter readings as plain values. The lengths of intervals and the limit are our own; a day has 1440 minutes, since
-- readings are in standard time.
use Rattle.std.specs.Prelude.{◌≡◌, ℕ, ℤ, List, ◌*◌, ◌^◌, ◌/◌, ◌-◌, take, drop, length, All}
use Rattle.jiff_core.specs.Calendar.{days_in_month}
use Rattle.d_num.specs.Amount.{IsWithin, IsReadingLength}

-- a month's readings: the length of an interval in minutes, and the net reading of each interval in Wh
pub record Metered : Type 0 where
  pub year : ℤ
  pub number : ℕ
  pub minutes : ℕ
  pub net : List ℤ

-- the readings cover the month from its first minute to its last, and each is at most 10^9 Wh in size
pub record IsReadings (year : ℤ) (number minutes : ℕ) (net : List ℤ) : Type 0 where
  pub pace : IsReadingLength minutes
  pub whole : length net * minutes ≡ days_in_month year number * 1440
  pub small : All (IsWithin (10 ^ 9)) net

-- how many intervals of so many minutes a day has
abbrev pub day_length : ℕ → ℕ
day_length minutes = 1440 / minutes

-- the readings of that day of the month, from 1: those behind the days before it
abbrev pub day_of : ℕ → List ℤ → ℕ → List ℤ
day_of minutes net day = take (day_length minutes) (drop ((day - 1) * day_length minutes) net)

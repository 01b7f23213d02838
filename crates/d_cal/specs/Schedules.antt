-- Hour schedules: twelve rows, one a month with January first, of 24 periods, one an hour with midnight first (the Utility Rate
-- Database's weekday and weekend schedules).
use Rattle.std.specs.Prelude.{ℕ, ℤ, ◌-◌, ◌≤◌, List, [], All, slice_index, slice_index_or, if◌then◌else◌}
use Rattle.d_cal.specs.Calendar.{is_weekend}

-- every entry is a period, which has a number from 0 to 35 (our own limit)
abbrev pub ArePeriods : List ℕ → Type 0
ArePeriods row = All (λ period. period ≤ 35) row

-- the same of every row
abbrev pub HasPeriods : List (List ℕ) → Type 0
HasPeriods grid = All ArePeriods grid

-- the entry for an hour, from 0, of a month, from 1
abbrev pub entry_at : List (List ℕ) → ℕ → ℕ → ℕ
entry_at grid number hour = slice_index (slice_index_or grid (number - 1) []) hour

-- the period that holds in an hour of a day: the weekend's schedule has it on Saturdays and Sundays, the weekday's on all others
abbrev pub period_of : List (List ℕ) → List (List ℕ) → ℤ → ℕ → ℕ → ℕ → ℕ
period_of weekday weekend year number day hour =
    if is_weekend year number day then entry_at weekend number hour else entry_at weekday number hour

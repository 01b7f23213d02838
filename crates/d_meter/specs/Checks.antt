-- What a check of a table says of its refusals, whichever way the cells are read.
use Rattle.std.specs.Prelude.{◌≡◌, ◌⊎◌, ℕ, ℤ, ◌*◌, List, Option, None, Some, Result, Ok, Err}
use Rattle.jiff_core.specs.Calendar.{days_in_month}
use Rattle.d_num.specs.Amount.{IsReadingLength}
use Rattle.d_cal.specs.declared.start.Start.{Start}
use Rattle.d_list.specs.Firsts.{first_of, each}
use Rattle.d_meter.specs.declared.fault.MeterFault.{MeterFault}
use Rattle.d_meter.specs.declared.fault.MeterFault.TheVariants as fault
use Rattle.d_meter.specs.Readings.{MeterReader, IsMeterReader, start_at, known, row_count, row_refusals}

-- a value is this, whichever way the cells are read
abbrev pub Reads : {A : Type 0} → (MeterReader → A) → A → Type 0
Reads value_of value = (reader : MeterReader) → IsMeterReader reader → value_of reader ≡ value

-- none of these refusals comes
abbrev pub Passes : (MeterReader → List (Option MeterFault)) → Type 0
Passes refusals = Reads (λ reader. first_of (refusals reader)) None

-- this is the first of these refusals that comes
abbrev pub Refuses : (MeterReader → List (Option MeterFault)) → MeterFault → Type 0
Refuses refusals refused = Reads (λ reader. first_of (refusals reader)) (Some refused)

-- a check goes through exactly where none of these refusals comes, and else answers the first
abbrev pub Checks : {A : Type 0} → (MeterReader → List (Option MeterFault)) → Result A MeterFault → Type 0
Checks refusals (Ok value) = Passes refusals
Checks refusals (Err refused) = Refuses refusals refused

-- the same of a check that may want memory
abbrev pub ChecksOrNot : {A : Type 0} → (MeterReader → List (Option MeterFault)) → Result A MeterFault → Type 0
ChecksOrNot refusals (Ok value) = Passes refusals
ChecksOrNot refusals (Err refused) = (refused ≡ fault.Memory) ⊎ Refuses refusals refused

-- so a check of all rows of a month that may want memory
abbrev pub ChecksRows : {A : Type 0} → List (List (List ℕ)) → ℤ → ℕ → ℕ → Result A MeterFault → Type 0
ChecksRows rows year number minutes result = ChecksOrNot (λ reader. each (row_count rows) (row_refusals reader rows year number minutes)) result

-- of refusals that no cell has to be read for, none comes
abbrev pub Decides : {A : Type 0} → List (Option MeterFault) → Result A MeterFault → Type 0
Decides refusals (Ok value) = first_of refusals ≡ None
Decides refusals (Err refused) = first_of refusals ≡ Some refused

-- so many intervals of so many minutes are a month
pub record FitsMonth (count : ℕ) (year : ℤ) (number minutes : ℕ) : Type 0 where
  pub pace : IsReadingLength minutes
  pub whole : count * minutes ≡ days_in_month year number * 1440

-- the first two starts say this month, and this length of its intervals
pub record IsHead (rows : List (List (List ℕ))) (year : ℤ) (number minutes : ℕ) : Type 0 where
  pub year_is : Reads (λ reader. (known (start_at reader rows 0)).year) year
  pub number_is : Reads (λ reader. (known (start_at reader rows 0)).month) number
  pub minutes_is : Reads (λ reader. (known (start_at reader rows 1)).minute) minutes

-- the month and the length of the intervals that two starts say
pub record IsHeadOf (first second : Start) (year : ℤ) (number minutes : ℕ) : Type 0 where
  pub year_is : first.year ≡ year
  pub number_is : first.month ≡ number
  pub minutes_is : second.minute ≡ minutes

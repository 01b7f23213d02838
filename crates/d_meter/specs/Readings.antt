-- The readings that a table says: those of a month, or why it is refused. The form of the file, its limit and the order of the refusals
-- are our own.
use Rattle.std.specs.Prelude.{◌≡◌, ℕ, ◌+◌, ◌-◌, ◌*◌, ◌/◌, ◌^◌, ◌==◌, ◌||◌, ◌&&◌, not, nat_lt, Bool, ℤ, pos, List, [], ◌∷◌, ◌++◌, length, map, drop, bytes_eq, codes, Option, None, Some, Result, Ok, Err}
use Rattle.std.specs.Option.{is_none}
use Rattle.std.specs.Ordering.{int_eq}
use Rattle.std.specs.Str.{str_to_ascii_lowercase}
use Rattle.std.specs.Cmp.Lexicographic.{pointwise}
use Rattle.jiff_core.specs.Calendar.{days_in_month}
use Rattle.d_text.specs.Fault.{IsDecimalOf, IsDecimalFault}
use Rattle.d_text.specs.declared.decimal.DecimalFault.{DecimalFault}
use Rattle.d_text.specs.declared.decimal.DecimalFault.TheVariants.{Empty, Form, TooLarge, TooFine}
use Rattle.d_list.specs.Firsts.{first_of, each, when}
use Rattle.d_table.specs.Table.{row_at, cell_in}
use Rattle.d_cal.specs.Starts.{IsStart, start_of}
use Rattle.d_cal.specs.declared.start.Start.{Start}
use Rattle.d_meter.specs.Meters.{Metered}
use Rattle.d_meter.specs.declared.fault.MeterFault.{MeterFault}
use Rattle.d_meter.specs.declared.fault.MeterFault.TheVariants as fault

-- the start that a cell is, or None where it is none
abbrev pub IsStartOrNone : List ℕ → Option Start → Type 0
IsStartOrNone cell None = (start : Start) → IsStart cell start → ⊥
IsStartOrNone cell (Some start) = IsStart cell start

-- the whole number of Wh that a cell is, at most 10^9 in size, or why it is none
abbrev pub IsNetOrFault : List ℕ → Result ℤ DecimalFault → Type 0
IsNetOrFault cell (Ok net) = IsDecimalOf cell 0 (10 ^ 9) net
IsNetOrFault cell (Err fault_) = IsDecimalFault cell 0 (10 ^ 9) fault_

-- a way to read all cells
pub record MeterReader : Type 0 where
  pub start : List ℕ → Option Start
  pub net : List ℕ → Result ℤ DecimalFault

-- it reads each cell as that has to be read
pub record IsMeterReader (reader : MeterReader) : Type 0 where
  pub start_is : (cell : List ℕ) → IsStartOrNone cell (reader.start cell)
  pub net_is : (cell : List ℕ) → IsNetOrFault cell (reader.net cell)

-- whether the header is `start,net_wh`, ASCII case ignored
abbrev pub is_header : List (List ℕ) → Bool
is_header header = pointwise bytes_eq (map str_to_ascii_lowercase header) (codes "start" ∷ codes "net_wh" ∷ [])

-- how many data rows there are; they are counted from 0
abbrev pub row_count : List (List (List ℕ)) → ℕ
row_count rows = length rows - 1

-- the start of a data row, or None where its cell is none
abbrev pub start_at : MeterReader → List (List (List ℕ)) → ℕ → Option Start
start_at reader rows row = reader.start (cell_in (row_at rows (row + 1)) 0)

-- the net reading of a data row, or why there is none
abbrev pub net_at : MeterReader → List (List (List ℕ)) → ℕ → Result ℤ DecimalFault
net_at reader rows row = reader.net (cell_in (row_at rows (row + 1)) 1)

-- a start that is there; where none is, nobody asks for it, since that is refused before
abbrev pub known : Option Start → Start
known None = start_of (pos 1) 1 1 0
known (Some start) = start

-- whether both are one start
abbrev pub is_same : Start → Start → Bool
is_same a b = int_eq a.year b.year && (a.month == b.month) && (a.day == b.day) && (a.minute == b.minute)

-- whether the start is 00:00 of the first day of a month
abbrev pub begins_month : Start → Bool
begins_month start = (start.day == 1) && (start.minute == 0)

-- whether the second start is 15, 30 or 60 minutes after the first minute of the first one's month
abbrev pub is_step : Start → Start → Bool
is_step first second =
    is_same second (start_of first.year first.month second.minute 1) && ((second.minute == 15) || (second.minute == 30) || (second.minute == 60))

-- how many intervals of so many minutes the month has
abbrev pub interval_count : ℤ → ℕ → ℕ → ℕ
interval_count year number minutes = days_in_month year number * 1440 / minutes

-- what the first two starts say of the month is refused, in this order: it doesn't begin with its first minute; its intervals aren't 15, 30
-- or 60 minutes long; there are more or fewer rows than intervals
abbrev pub month_refusals : Start → Start → ℕ → List (Option MeterFault)
month_refusals first second count =
    when (not (begins_month first)) (fault.Order 0)
    ∷ when (not (is_step first second)) fault.Step
    ∷ when (not (count == interval_count first.year first.month second.minute)) (fault.Count count (interval_count first.year first.month second.minute))
    ∷ []

-- all that is refused before the rows are gone through, in order: another header; fewer than two rows; a cell of the first two that is no
-- start; and what those starts say of the month
abbrev pub head_refusals : MeterReader → List (List (List ℕ)) → List (Option MeterFault)
head_refusals reader rows =
    when (not (is_header (row_at rows 0))) fault.Shape
    ∷ when (nat_lt (row_count rows) 2) (fault.Count (row_count rows) 2)
    ∷ when (is_none (start_at reader rows 0)) (fault.Start 0)
    ∷ when (is_none (start_at reader rows 1)) (fault.Start 1)
    ∷ month_refusals (known (start_at reader rows 0)) (known (start_at reader rows 1)) (row_count rows)

-- a net reading that can't be read: too large, or no whole number
abbrev pub net_refusal : Result ℤ DecimalFault → ℕ → Option MeterFault
net_refusal (Ok net) row = None
net_refusal (Err TooLarge) row = Some (fault.TooLarge row)
net_refusal (Err Empty) row = Some (fault.Number row)
net_refusal (Err (Form place)) row = Some (fault.Number row)
net_refusal (Err TooFine) row = Some (fault.Number row)

-- the refusals of a row, in order: no start; not the start of its interval of the month; no net reading
abbrev pub row_refusals : MeterReader → List (List (List ℕ)) → ℤ → ℕ → ℕ → ℕ → List (Option MeterFault)
row_refusals reader rows year number minutes row =
    when (is_none (start_at reader rows row)) (fault.Start row)
    ∷ when (not (is_same (known (start_at reader rows row)) (start_of year number minutes row))) (fault.Order row)
    ∷ net_refusal (net_at reader rows row) row
    ∷ []

-- the reading of a row that isn't refused
abbrev pub net_or_0 : Result ℤ DecimalFault → ℤ
net_or_0 (Ok net) = net
net_or_0 (Err fault_) = pos 0

-- the net reading of a row's cells
abbrev pub net_of : MeterReader → List (List ℕ) → ℤ
net_of reader cells = net_or_0 (reader.net (cell_in cells 1))

-- the readings of a table that isn't refused: the month of the first start, the minutes from it to the second, and the net readings in order
unfoldable pub readings_of : MeterReader → List (List (List ℕ)) → Metered
readings_of reader rows = record {
  year = (known (start_at reader rows 0)).year;
  number = (known (start_at reader rows 0)).month;
  minutes = (known (start_at reader rows 1)).minute;
  net = map (net_of reader) (drop 1 rows);
}

-- the refusals of all rows of those readings, row by row
abbrev pub all_row_refusals : MeterReader → List (List (List ℕ)) → Metered → List (Option MeterFault)
all_row_refusals reader rows metered = each (row_count rows) (row_refusals reader rows metered.year metered.number metered.minutes)

-- a refusal where one comes, else the readings
abbrev pub refused_or : Option MeterFault → Metered → Result Metered MeterFault
refused_or None metered = Ok metered
refused_or (Some refused) metered = Err refused

-- the first refusal of the table, or its readings
unfoldable pub outcome_of : MeterReader → List (List (List ℕ)) → Result Metered MeterFault
outcome_of reader rows =
    refused_or (first_of (head_refusals reader rows ++ all_row_refusals reader rows (readings_of reader rows))) (readings_of reader rows)

-- this is the outcome of the table with these rows, whichever way its cells are read
abbrev pub IsOutcome : List (List (List ℕ)) → Result Metered MeterFault → Type 0
IsOutcome rows outcome = (reader : MeterReader) → IsMeterReader reader → outcome ≡ outcome_of reader rows

-- The energy schedules of a record.
use Rattle.std.specs.Prelude.{ℕ, Bool, not, ◌&&◌, ◌||◌, ◌==◌, List, [], ◌∷◌, codes, Option, None, Some, Result, Ok, Err}
use Rattle.std.specs.List.{list_any}
use Rattle.d_table.specs.Table.{column_of}
use Rattle.d_urdb.specs.declared.fault.Refused.{Refused}
use Rattle.d_columns.specs.declared.names.Structure.TheVariants.{Energy}
use Rattle.d_urdb.specs.Numbers.{CellReader, zero_hours}
use Rattle.d_urdb.specs.Refusals.{each, refusal, when}
use Rattle.d_columns.specs.Tiers.{Row, named_cell, has_tier}
use Rattle.d_urdb.specs.declared.cause.Cause.TheVariants as cause

-- the column of the energy periods of weekday hours
abbrev pub weekday_name : List ℕ
weekday_name = codes "energyweekdayschedule"

-- the column of the energy periods of weekend hours
abbrev pub weekend_name : List ℕ
weekend_name = codes "energyweekendschedule"

-- hours that were read; period 0 everywhere where there was a fault
abbrev pub hours_or_0 : Result (List (List ℕ)) ℕ → List (List ℕ)
hours_or_0 (Ok rows) = rows
hours_or_0 (Err place) = zero_hours

-- the hours in a column
abbrev pub hours_in : CellReader → Row → List ℕ → List (List ℕ)
hours_in reader row name = hours_or_0 (reader.hours (named_cell row name))

-- 5: a schedule is no grid; the detail is the place
abbrev pub grid_fault : Row → List ℕ → Result (List (List ℕ)) ℕ → Option Refused
grid_fault row name (Ok rows) = None
grid_fault row name (Err place) = Some (refusal row.header cause.Grid (column_of name row.header) place)

-- 5: the schedule in the column of that name is no grid
abbrev pub grid_refusal : CellReader → Row → List ℕ → Option Refused
grid_refusal reader row name = grid_fault row name (reader.hours (named_cell row name))

-- whether an hour is in this period
abbrev pub occurs_in : ℕ → List (List ℕ) → Bool
occurs_in period hours = list_any (list_any (λ entry. entry == period)) hours

-- an hour is in this period, and the period has no tier
abbrev pub is_missing : Row → List (List ℕ) → List (List ℕ) → ℕ → Bool
is_missing row weekday weekend period = (occurs_in period weekday || occurs_in period weekend) && not (has_tier row Energy period 0)

-- 6: an hour of one of the two schedules is in a period that has no tier; no column is named, and the detail is the period
abbrev pub missing_refusal : Row → List (List ℕ) → List (List ℕ) → ℕ → Option Refused
missing_refusal row weekday weekend period =
    when (is_missing row weekday weekend period) (refusal row.header cause.EnergyMissing None period)

-- the same for each of the periods 0 to 35
unfoldable pub missing_refusals : Row → List (List ℕ) → List (List ℕ) → List (Option Refused)
missing_refusals row weekday weekend = each 36 (λ period. missing_refusal row weekday weekend period ∷ [])

-- all refusals of the schedules, in order
abbrev pub hours_refusals : CellReader → Row → List (Option Refused)
hours_refusals reader row =
    grid_refusal reader row weekday_name
    ∷ grid_refusal reader row weekend_name
    ∷ missing_refusals row (hours_in reader row weekday_name) (hours_in reader row weekend_name)

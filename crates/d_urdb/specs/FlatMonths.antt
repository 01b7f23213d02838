-- The flat demand period of each month.
use Rattle.std.specs.Prelude.{◌≡◌, ◌≢◌, ◌↔◌, ℕ, not, ◌&&◌, nat_lt, List, [], ◌∷◌, Option, None, Some, unwrap_or, map, if◌then◌else◌}
use Rattle.std.specs.List.{list_all, range_with_len}
use Rattle.std.specs.Option.{is_some}
use Rattle.std.specs.Str.Parse.{digits_value}
use Rattle.d_text.specs.Grid.{IsNumber}
use Rattle.d_urdb.specs.declared.fault.Refused.{Refused}
use Rattle.d_columns.specs.declared.month_list.MonthList.TheVariants.{FlatPeriods}
use Rattle.d_urdb.specs.Months.{item_cell, item_column, list_refusal}
use Rattle.d_columns.specs.Names.{is_digit}
use Rattle.d_urdb.specs.Numbers.{CellReader}
use Rattle.d_urdb.specs.Refusals.{each, refusal, when}
use Rattle.d_columns.specs.Tiers.{Row}
use Rattle.d_urdb.specs.declared.cause.Cause.TheVariants as cause

-- the period that a text says: a whole number from 0 to 35, zeros in front of it or none; a blank text says 0
unfoldable pub period_in : List ℕ → Option ℕ
period_in [] = Some 0
period_in (byte ∷ rest) =
    if list_all is_digit (byte ∷ rest) && nat_lt (digits_value 10 (byte ∷ rest)) 36 then Some (digits_value 10 (byte ∷ rest)) else None

-- 5: a month's item is no period
abbrev pub month_refusal : CellReader → Row → ℕ → Option Refused
month_refusal reader row month =
    when (not (is_some (period_in (item_cell reader row FlatPeriods month)))) (refusal row.header cause.Grid (item_column row FlatPeriods month) 0)

-- all refusals of the months' periods, in order
unfoldable pub month_refusals : CellReader → Row → List (Option Refused)
month_refusals reader row = list_refusal reader row FlatPeriods ∷ each 12 (λ month. month_refusal reader row month ∷ [])

-- the period of a month
abbrev pub flat_month : CellReader → Row → ℕ → ℕ
flat_month reader row month = unwrap_or (period_in (item_cell reader row FlatPeriods month)) 0

-- the period of each month
unfoldable pub flat_months : CellReader → Row → List ℕ
flat_months reader row = map (flat_month reader row) (range_with_len 0 12)

-- a text that isn't blank says a period exactly where it is a number of a grid, wherever it stands
abbrev pub ReadsAsInGrids : Type 0
ReadsAsInGrids = (place : ℕ) (text : List ℕ) (number : ℕ) → text ≢ [] → (period_in text ≡ Some number) ↔ IsNumber place text number

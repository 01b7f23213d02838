-- The flat demand periods of the months.
use Rattle.std.proofs.Common.{◌≡◌, ℕ, List, [], ◌∷◌, length, Option, None, Some, Result, refl, ap}
use Rattle.d_urdb.specs.declared.fault.Refused.{Refused}
use Rattle.d_columns.specs.declared.month_list.MonthList.TheVariants.{FlatPeriods}
use Rattle.d_urdb.specs.Checks.{Passes, Refuses, Checks}
use Rattle.d_urdb.specs.FlatMonths.{period_in, month_refusal, month_refusals, flat_month, flat_months}
use Rattle.d_urdb.specs.Months.{item_cell, item_column, list_refusal}
use Rattle.d_urdb.specs.Numbers.{CellReader}
use Rattle.d_urdb.specs.Refusals.{first_of, each, refusal}
use Rattle.d_columns.specs.Tiers.{Row}
use Rattle.d_urdb.proofs.MonthLoops.{AreFirst, all_twelve}
use Rattle.d_urdb.proofs.RefusalOrder.{first_refuses, then_checks}
use Rattle.d_urdb.specs.declared.cause.Cause.TheVariants as cause

-- a period that is read or not
pub flat_passes : (reader : CellReader) (row : Row) (month period : ℕ) → period_in (item_cell reader row FlatPeriods month) ≡ Some period
    → first_of (month_refusal reader row month ∷ []) ≡ None
unfolding first_of
flat_passes reader row month period is = rw is refl

pub flat_value : (reader : CellReader) (row : Row) (month period : ℕ) → period_in (item_cell reader row FlatPeriods month) ≡ Some period
    → period ≡ flat_month reader row month
flat_value reader row month period is = rw is refl

pub flat_refuses : (reader : CellReader) (row : Row) (month : ℕ) (refused : Refused) → period_in (item_cell reader row FlatPeriods month) ≡ None
    → refusal row.header cause.Grid (item_column row FlatPeriods month) 0 ≡ refused → first_of (month_refusal reader row month ∷ []) ≡ Some refused
unfolding first_of
flat_refuses reader row month refused is same = rw is (ap (λ r. Some r) same)

-- all of them
pub flat_all : (reader : CellReader) (row : Row) (count : ℕ) (months : List ℕ) → count ≡ 12 → length months ≡ 12
    → AreFirst (flat_month reader row) 0 count months → months ≡ flat_months reader row
unfolding flat_months
flat_all reader row count months all long before = all_twelve (flat_month reader row) 0 count months all long before

-- the list and then the months
abbrev by_list : Row → CellReader → List (Option Refused)
by_list row reader = list_refusal reader row FlatPeriods ∷ []

abbrev by_month : Row → CellReader → List (Option Refused)
by_month row reader = each 12 (λ month. month_refusal reader row month ∷ [])

pub list_refuses : (row : Row) (refused : Refused) → Refuses (by_list row) refused → Refuses (λ reader. month_refusals reader row) refused
unfolding month_refusals
list_refuses row refused here = first_refuses (by_list row) (by_month row) refused here

pub then_months : {A : Type 0} (row : Row) (result : Result A Refused) → Passes (by_list row) → Checks (by_month row) result
    → Checks (λ reader. month_refusals reader row) result
unfolding month_refusals
then_months row result list here = then_checks (by_list row) (by_month row) result list here

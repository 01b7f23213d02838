-- What is added for fuel.
use Rattle.std.proofs.Common.{◌≡◌, ◌∙◌, ℕ, ℤ, pos, true, false, not, List, [], ◌∷◌, ◌++◌, Option, None, Some, Result, sym, ap, subst}
use Rattle.std.specs.Ordering.{int_eq}
use Rattle.d_urdb.specs.declared.fault.Refused.{Refused}
use Rattle.d_columns.specs.declared.month_list.MonthList.{MonthList}
use Rattle.d_columns.specs.declared.month_list.MonthList.TheVariants.{FuelAdjustments}
use Rattle.d_urdb.specs.Adjustments.{fuel_refusal, fuel_refusals}
use Rattle.d_urdb.specs.Checks.{Passes, Refuses, Checks}
use Rattle.d_urdb.specs.Items.{item_number, AreNumbersOf}
use Rattle.d_urdb.specs.Months.{item_column, item_refusal, list_refusal}
use Rattle.d_urdb.specs.Numbers.{CellReader}
use Rattle.d_urdb.specs.Periods.{price_limit}
use Rattle.d_urdb.specs.Refusals.{first_of, each, refusal}
use Rattle.d_columns.specs.Tiers.{Row}
use Rattle.d_urdb.proofs.CheckFacts.{when_passes, when_refuses}
use Rattle.d_urdb.proofs.RefusalOrder.{first_refuses, then_refuses, then_checks}
use Rattle.d_urdb.specs.declared.cause.Cause.TheVariants as cause

-- a month's number that is 0 or not
pub fuel_passes : (reader : CellReader) (row : Row) (month : ℕ) (number : ℤ) → number ≡ item_number reader row FuelAdjustments price_limit month
    → not (int_eq number (pos 0)) ≡ false → first_of (fuel_refusal reader row month ∷ []) ≡ None
fuel_passes reader row month number same fails =
    when_passes (not (int_eq (item_number reader row FuelAdjustments price_limit month) (pos 0)))
    (refusal row.header cause.FuelAdjustment (item_column row FuelAdjustments month) 0) (ap (λ n. not (int_eq n (pos 0))) (sym same) ∙ fails)

pub fuel_refuses : (reader : CellReader) (row : Row) (month : ℕ) (number : ℤ) (refused : Refused)
    → number ≡ item_number reader row FuelAdjustments price_limit month → not (int_eq number (pos 0)) ≡ true
    → refusal row.header cause.FuelAdjustment (item_column row FuelAdjustments month) 0 ≡ refused → first_of (fuel_refusal reader row month ∷ []) ≡ Some refused
fuel_refuses reader row month number refused same holds is =
    when_refuses (not (int_eq (item_number reader row FuelAdjustments price_limit month) (pos 0)))
    (refusal row.header cause.FuelAdjustment (item_column row FuelAdjustments month) 0) refused (ap (λ n. not (int_eq n (pos 0))) (sym same) ∙ holds) is

-- the refusals by what they are of
abbrev pub by_list : Row → CellReader → List (Option Refused)
by_list row reader = list_refusal reader row FuelAdjustments ∷ []

abbrev pub by_item : Row → MonthList → CellReader → List (Option Refused)
by_item row list reader = each 12 (λ month. item_refusal reader row list price_limit month ∷ [])

abbrev pub by_month : Row → CellReader → List (Option Refused)
by_month row reader = each 12 (λ month. fuel_refusal reader row month ∷ [])

-- items of this list are those of fuel adjustments
items_pass : (row : Row) (list : MonthList) → list ≡ FuelAdjustments → Passes (by_item row list) → Passes (by_item row FuelAdjustments)
items_pass row list same here = subst (λ (l : MonthList). Passes (by_item row l)) same here

items_refuse : (row : Row) (list : MonthList) (refused : Refused) → list ≡ FuelAdjustments → Refuses (by_item row list) refused
    → Refuses (by_item row FuelAdjustments) refused
items_refuse row list refused same here = subst (λ (l : MonthList). Refuses (by_item row l) refused) same here

-- the checks, one after the other
pub list_refuses : (row : Row) (refused : Refused) → Refuses (by_list row) refused → Refuses (λ reader. fuel_refusals reader row) refused
unfolding fuel_refusals
list_refuses row refused here = first_refuses (by_list row) (λ reader. by_item row FuelAdjustments reader ++ by_month row reader) refused here

pub item_refuses : (row : Row) (list : MonthList) (refused : Refused) → list ≡ FuelAdjustments → Passes (by_list row) → Refuses (by_item row list) refused
    → Refuses (λ reader. fuel_refusals reader row) refused
unfolding fuel_refusals
item_refuses row list refused same listed here =
    then_refuses (by_list row) (λ reader. by_item row FuelAdjustments reader ++ by_month row reader) refused listed
    (first_refuses (by_item row FuelAdjustments) (by_month row) refused (items_refuse row list refused same here))

pub then_months : {A : Type 0} (row : Row) (list : MonthList) (result : Result A Refused) → list ≡ FuelAdjustments → Passes (by_list row)
    → Passes (by_item row list) → Checks (by_month row) result → Checks (λ reader. fuel_refusals reader row) result
unfolding fuel_refusals
then_months row list result same listed items here =
    then_checks (by_list row) (λ reader. by_item row FuelAdjustments reader ++ by_month row reader) result listed
    (then_checks (by_item row FuelAdjustments) (by_month row) result (items_pass row list same items) here)

-- the numbers of these items are those of fuel adjustments
pub fuel_numbers : (reader : CellReader) (row : Row) (list : MonthList) (numbers : List ℤ) → list ≡ FuelAdjustments
    → AreNumbersOf reader row list price_limit numbers → AreNumbersOf reader row FuelAdjustments price_limit numbers
fuel_numbers reader row list numbers same are = subst (λ (l : MonthList). AreNumbersOf reader row l price_limit numbers) same are

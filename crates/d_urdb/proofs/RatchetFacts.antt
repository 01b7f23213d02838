-- The fractions of the months.
use Rattle.std.proofs.Common.{◌≡◌, ◌∙◌, ℕ, ℤ, pos, int_lt, true, false, List, [], ◌∷◌, ◌++◌, length, Option, None, Some, sym, ap, subst}
use Rattle.d_table.specs.Table.{column_of}
use Rattle.d_urdb.specs.declared.fault.Refused.{Refused}
use Rattle.d_columns.specs.declared.month_list.MonthList.{MonthList}
use Rattle.d_columns.specs.declared.month_list.MonthList.TheVariants.{Ratchets}
use Rattle.d_urdb.specs.Checks.{Passes, Refuses}
use Rattle.d_urdb.specs.Items.{AreNumbersOf}
use Rattle.d_urdb.specs.Months.{item_cell, item_column, item_refusal, list_refusal}
use Rattle.d_urdb.specs.NamedNumbers.{name_refusal, named_number}
use Rattle.d_urdb.specs.Numbers.{CellReader}
use Rattle.d_urdb.specs.Ratchets.{fraction_limit, lookback_name, month_number, fraction_refusal, lookback_refusal, fraction_number_refusals, fraction_sign_refusals, ratchet_refusals, fraction_of, ratchet_of, ratchets}
use Rattle.d_urdb.specs.Refusals.{first_of, each, refusal}
use Rattle.d_columns.specs.Tiers.{Row, is_filled}
use Rattle.d_urdb.proofs.CheckFacts.{when_passes, when_refuses}
use Rattle.d_urdb.proofs.MonthLoops.{AreFirst, all_twelve}
use Rattle.d_urdb.proofs.RefusalOrder.{both_pass, first_refuses, then_refuses}
use Rattle.d_urdb.specs.declared.cause.Cause.TheVariants as cause

-- a month's number that is below 0 or not
pub fraction_passes : (reader : CellReader) (row : Row) (month : ℕ) (number : ℤ) → number ≡ month_number reader row month
    → int_lt number (pos 0) ≡ false → first_of (fraction_refusal reader row month ∷ []) ≡ None
fraction_passes reader row month number same fails =
    when_passes (int_lt (month_number reader row month) (pos 0)) (refusal row.header cause.Fraction (item_column row Ratchets month) 0)
    (ap (λ n. int_lt n (pos 0)) (sym same) ∙ fails)

pub fraction_refuses : (reader : CellReader) (row : Row) (month : ℕ) (number : ℤ) (refused : Refused) → number ≡ month_number reader row month
    → int_lt number (pos 0) ≡ true → refusal row.header cause.Fraction (item_column row Ratchets month) 0 ≡ refused
    → first_of (fraction_refusal reader row month ∷ []) ≡ Some refused
fraction_refuses reader row month number refused same holds is =
    when_refuses (int_lt (month_number reader row month) (pos 0)) (refusal row.header cause.Fraction (item_column row Ratchets month) 0) refused
    (ap (λ n. int_lt n (pos 0)) (sym same) ∙ holds) is

-- the number of all months that is below 0 or not
pub lookback_passes : (reader : CellReader) (row : Row) (number : ℤ) → number ≡ named_number reader row fraction_limit lookback_name
    → int_lt number (pos 0) ≡ false → first_of (lookback_refusal reader row ∷ []) ≡ None
lookback_passes reader row number same fails =
    when_passes (int_lt (named_number reader row fraction_limit lookback_name) (pos 0)) (refusal row.header cause.Fraction (column_of lookback_name row.header) 0)
    (ap (λ n. int_lt n (pos 0)) (sym same) ∙ fails)

pub lookback_refuses : (reader : CellReader) (row : Row) (number : ℤ) (refused : Refused) → number ≡ named_number reader row fraction_limit lookback_name
    → int_lt number (pos 0) ≡ true → refusal row.header cause.Fraction (column_of lookback_name row.header) 0 ≡ refused
    → first_of (lookback_refusal reader row ∷ []) ≡ Some refused
lookback_refuses reader row number refused same holds is =
    when_refuses (int_lt (named_number reader row fraction_limit lookback_name) (pos 0)) (refusal row.header cause.Fraction (column_of lookback_name row.header) 0) refused
    (ap (λ n. int_lt n (pos 0)) (sym same) ∙ holds) is

-- the fraction of a month that has its own, and of one that has none
pub own_fraction : (reader : CellReader) (row : Row) (month fraction : ℕ) (number : ℤ) → fraction ≡ fraction_of number
    → number ≡ month_number reader row month → is_filled (item_cell reader row Ratchets month) ≡ true → fraction ≡ ratchet_of reader row month
own_fraction reader row month fraction number is same given = rw given (is ∙ ap fraction_of same)

pub other_fraction : (reader : CellReader) (row : Row) (month fraction : ℕ) (number : ℤ) → fraction ≡ fraction_of number
    → number ≡ named_number reader row fraction_limit lookback_name → is_filled (item_cell reader row Ratchets month) ≡ false
    → fraction ≡ ratchet_of reader row month
other_fraction reader row month fraction number is same none = rw none (is ∙ ap fraction_of same)

-- all of them
pub ratchets_all : (reader : CellReader) (row : Row) (count : ℕ) (fractions : List ℕ) → count ≡ 12 → length fractions ≡ 12
    → AreFirst (ratchet_of reader row) 0 count fractions → fractions ≡ ratchets reader row
unfolding ratchets
ratchets_all reader row count fractions all long before = all_twelve (ratchet_of reader row) 0 count fractions all long before

-- the refusals by what they are of
abbrev pub by_list : Row → CellReader → List (Option Refused)
by_list row reader = list_refusal reader row Ratchets ∷ []

abbrev pub by_item : Row → MonthList → CellReader → List (Option Refused)
by_item row list reader = each 12 (λ month. item_refusal reader row list fraction_limit month ∷ [])

abbrev pub by_name : Row → CellReader → List (Option Refused)
by_name row reader = name_refusal reader row fraction_limit lookback_name ∷ []

abbrev pub by_month : Row → CellReader → List (Option Refused)
by_month row reader = each 12 (λ month. fraction_refusal reader row month ∷ [])

abbrev pub by_lookback : Row → CellReader → List (Option Refused)
by_lookback row reader = lookback_refusal reader row ∷ []

abbrev by_number : Row → CellReader → List (Option Refused)
by_number row reader = by_item row Ratchets reader ++ by_name row reader

abbrev by_sign : Row → CellReader → List (Option Refused)
by_sign row reader = by_month row reader ++ by_lookback row reader

abbrev pub by_all : Row → CellReader → List (Option Refused)
by_all row reader = ratchet_refusals reader row

-- items of this list are those of the ratchets
items_pass : (row : Row) (list : MonthList) → list ≡ Ratchets → Passes (by_item row list) → Passes (by_item row Ratchets)
items_pass row list same here = subst (λ (l : MonthList). Passes (by_item row l)) same here

items_refuse : (row : Row) (list : MonthList) (refused : Refused) → list ≡ Ratchets → Refuses (by_item row list) refused → Refuses (by_item row Ratchets) refused
items_refuse row list refused same here = subst (λ (l : MonthList). Refuses (by_item row l) refused) same here

-- the checks, one after the other
pub list_refuses : (row : Row) (refused : Refused) → Refuses (by_list row) refused → Refuses (by_all row) refused
unfolding ratchet_refusals fraction_number_refusals fraction_sign_refusals
list_refuses row refused here = first_refuses (by_list row) (λ reader. by_number row reader ++ by_sign row reader) refused here

pub item_refuses : (row : Row) (list : MonthList) (refused : Refused) → list ≡ Ratchets → Passes (by_list row) → Refuses (by_item row list) refused
    → Refuses (by_all row) refused
unfolding ratchet_refusals fraction_number_refusals fraction_sign_refusals
item_refuses row list refused same listed here =
    then_refuses (by_list row) (λ reader. by_number row reader ++ by_sign row reader) refused listed
    (first_refuses (by_number row) (by_sign row) refused (first_refuses (by_item row Ratchets) (by_name row) refused (items_refuse row list refused same here)))

pub name_refuses : (row : Row) (list : MonthList) (refused : Refused) → list ≡ Ratchets → Passes (by_list row) → Passes (by_item row list)
    → Refuses (by_name row) refused → Refuses (by_all row) refused
unfolding ratchet_refusals fraction_number_refusals fraction_sign_refusals
name_refuses row list refused same listed items here =
    then_refuses (by_list row) (λ reader. by_number row reader ++ by_sign row reader) refused listed
    (first_refuses (by_number row) (by_sign row) refused (then_refuses (by_item row Ratchets) (by_name row) refused (items_pass row list same items) here))

pub month_refuses : (row : Row) (list : MonthList) (refused : Refused) → list ≡ Ratchets → Passes (by_list row) → Passes (by_item row list)
    → Passes (by_name row) → Refuses (by_month row) refused → Refuses (by_all row) refused
unfolding ratchet_refusals fraction_number_refusals fraction_sign_refusals
month_refuses row list refused same listed items name here =
    then_refuses (by_list row) (λ reader. by_number row reader ++ by_sign row reader) refused listed
    (then_refuses (by_number row) (by_sign row) refused (both_pass (by_item row Ratchets) (by_name row) (items_pass row list same items) name)
    (first_refuses (by_month row) (by_lookback row) refused here))

pub sign_refuses : (row : Row) (list : MonthList) (refused : Refused) → list ≡ Ratchets → Passes (by_list row) → Passes (by_item row list)
    → Passes (by_name row) → Passes (by_month row) → Refuses (by_lookback row) refused → Refuses (by_all row) refused
unfolding ratchet_refusals fraction_number_refusals fraction_sign_refusals
sign_refuses row list refused same listed items name months here =
    then_refuses (by_list row) (λ reader. by_number row reader ++ by_sign row reader) refused listed
    (then_refuses (by_number row) (by_sign row) refused (both_pass (by_item row Ratchets) (by_name row) (items_pass row list same items) name)
    (then_refuses (by_month row) (by_lookback row) refused months here))

pub ratchets_pass : (row : Row) (list : MonthList) → list ≡ Ratchets → Passes (by_list row) → Passes (by_item row list) → Passes (by_name row)
    → Passes (by_month row) → Passes (by_lookback row) → Passes (by_all row)
unfolding ratchet_refusals fraction_number_refusals fraction_sign_refusals
ratchets_pass row list same listed items name months here =
    both_pass (by_list row) (λ reader. by_number row reader ++ by_sign row reader) listed
    (both_pass (by_number row) (by_sign row) (both_pass (by_item row Ratchets) (by_name row) (items_pass row list same items) name)
    (both_pass (by_month row) (by_lookback row) months here))

-- the numbers of these items are those of the ratchets
pub ratchet_numbers : (reader : CellReader) (row : Row) (list : MonthList) (numbers : List ℤ) → list ≡ Ratchets
    → AreNumbersOf reader row list fraction_limit numbers → AreNumbersOf reader row Ratchets fraction_limit numbers
ratchet_numbers reader row list numbers same are = subst (λ (l : MonthList). AreNumbersOf reader row l fraction_limit numbers) same are

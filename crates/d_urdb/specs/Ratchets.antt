-- The fraction of earlier demand that a month is billed for at least. The fields are the rate database's; that a value from 0 to 1 is a
-- fraction and one above 1 up to 100 a percent is our own rule.
use Rattle.std.specs.Prelude.{ℕ, ◌*◌, ◌^◌, ℤ, pos, negsuc, int_lt, nat_lt, List, [], ◌∷◌, ◌++◌, codes, Option, map, if◌then◌else◌}
use Rattle.std.specs.List.{range_with_len}
use Rattle.d_table.specs.Table.{column_of}
use Rattle.d_urdb.specs.declared.fault.Refused.{Refused}
use Rattle.d_columns.specs.declared.month_list.MonthList.TheVariants.{Ratchets}
use Rattle.d_urdb.specs.Months.{item_cell, item_column, item_refusal, list_refusal}
use Rattle.d_urdb.specs.NamedNumbers.{name_refusal, named_number}
use Rattle.d_urdb.specs.Numbers.{CellReader}
use Rattle.d_urdb.specs.Periods.{number_or_0}
use Rattle.d_urdb.specs.Refusals.{each, refusal, when}
use Rattle.d_columns.specs.Tiers.{Row, is_filled}
use Rattle.d_urdb.specs.declared.cause.Cause.TheVariants as cause

-- the most that a fraction or a percent may be
abbrev pub fraction_limit : ℕ
fraction_limit = 100

-- the column of the fraction of all months that have none of their own
abbrev pub lookback_name : List ℕ
lookback_name = codes "lookbackpercent"

-- the number of a month's item; 0 where none can be read
abbrev pub month_number : CellReader → Row → ℕ → ℤ
month_number reader row month = number_or_0 (reader.number fraction_limit (item_cell reader row Ratchets month))

-- 22: a fraction is below 0
abbrev pub fraction_refusal : CellReader → Row → ℕ → Option Refused
fraction_refusal reader row month =
    when (int_lt (month_number reader row month) (pos 0)) (refusal row.header cause.Fraction (item_column row Ratchets month) 0)

-- 22: the look-back is below 0
abbrev pub lookback_refusal : CellReader → Row → Option Refused
lookback_refusal reader row =
    when (int_lt (named_number reader row fraction_limit lookback_name) (pos 0)) (refusal row.header cause.Fraction (column_of lookback_name row.header) 0)

-- all of them can be read
unfoldable pub fraction_number_refusals : CellReader → Row → List (Option Refused)
fraction_number_refusals reader row =
    each 12 (λ month. item_refusal reader row Ratchets fraction_limit month ∷ []) ++ name_refusal reader row fraction_limit lookback_name ∷ []

-- none of them is below 0
unfoldable pub fraction_sign_refusals : CellReader → Row → List (Option Refused)
fraction_sign_refusals reader row = each 12 (λ month. fraction_refusal reader row month ∷ []) ++ lookback_refusal reader row ∷ []

-- all refusals of the fractions, in order
unfoldable pub ratchet_refusals : CellReader → Row → List (Option Refused)
ratchet_refusals reader row =
    (list_refusal reader row Ratchets ∷ []) ++ (fraction_number_refusals reader row ++ fraction_sign_refusals reader row)

-- a number in units of 10^-18 as a fraction in units of 10^-20: above 1 it is a percent
abbrev pub fraction_of : ℤ → ℕ
fraction_of (pos units) = if nat_lt (10 ^ 18) units then units else units * 100
fraction_of (negsuc units) = 0

-- the fraction of a month: its own where that is given, also where it is 0, else that of all months, else 0
abbrev pub ratchet_of : CellReader → Row → ℕ → ℕ
ratchet_of reader row month =
    if is_filled (item_cell reader row Ratchets month) then fraction_of (month_number reader row month)
    else fraction_of (named_number reader row fraction_limit lookback_name)

-- the fraction of each month
unfoldable pub ratchets : CellReader → Row → List ℕ
ratchets reader row = map (ratchet_of reader row) (range_with_len 0 12)

-- The names of the lists with an item for each month, January first. The rate database's bulk file has them in brackets in one cell, or in
-- twelve columns whose names end in the month's number; where the one cell is filled it counts, and the twelve aren't read.
use Rattle.std.specs.Prelude.{ℕ, ◌+◌, Bool, List, [], ◌∷◌, ◌++◌, codes, decimal}
use Rattle.d_columns.specs.declared.month_list.MonthList.{MonthList}
use Rattle.d_columns.specs.declared.month_list.MonthList.TheVariants.{FlatPeriods, Ratchets, FuelAdjustments}
use Rattle.d_columns.specs.Tiers.{Row, named_cell, is_filled}

-- the column of the whole list
abbrev pub list_name : MonthList → List ℕ
list_name FlatPeriods = codes "flatdemandmonths"
list_name Ratchets = codes "demandratchetpercentage"
list_name FuelAdjustments = codes "fueladjustmentsmonthly"

-- how the names of the twelve columns begin
abbrev pub month_front : MonthList → List ℕ
month_front FlatPeriods = codes "flatdemandmonth"
month_front Ratchets = codes "demandratchetpercentage"
month_front FuelAdjustments = codes "fueladjustmentsmonthly"

-- the column of a month, from 0
abbrev pub month_name : MonthList → ℕ → List ℕ
month_name list month = month_front list ++ decimal (month + 1)

-- whether the list is in one cell
abbrev pub is_listed : Row → MonthList → Bool
is_listed row list = is_filled (named_cell row (list_name list))

-- the columns of the twelve months, as they are written
abbrev pub month_names : MonthList → List (List ℕ)
month_names list =
    (month_front list ++ codes "1") ∷ (month_front list ++ codes "2") ∷ (month_front list ++ codes "3") ∷ (month_front list ++ codes "4")
    ∷ (month_front list ++ codes "5") ∷ (month_front list ++ codes "6") ∷ (month_front list ++ codes "7") ∷ (month_front list ++ codes "8")
    ∷ (month_front list ++ codes "9") ∷ (month_front list ++ codes "10") ∷ (month_front list ++ codes "11") ∷ (month_front list ++ codes "12") ∷ []

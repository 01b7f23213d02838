-- The columns of a record that nothing is read from.
use Rattle.std.specs.Prelude.{ℕ, Bool, false, not, ◌&&◌, ◌||◌, ◌==◌, List, [], ◌∷◌, length, filter, codes, Option, None, Some}
use Rattle.std.specs.List.{list_any, range_with_len}
use Rattle.d_table.specs.Table.{cell_in, column_of}
use Rattle.d_columns.specs.declared.month_list.MonthList.{MonthList}
use Rattle.d_columns.specs.declared.month_list.MonthList.TheVariants.{FlatPeriods, Ratchets, FuelAdjustments}
use Rattle.d_columns.specs.declared.names.Structure.{Structure}
use Rattle.d_columns.specs.declared.names.Structure.TheVariants.{Energy, Demand, FlatDemand, Coincident}
use Rattle.d_columns.specs.MonthLists.{list_name, month_name, is_listed}
use Rattle.d_columns.specs.Tiers.{Row, part_column, parts, is_filled}

-- the columns of one name each that are read, beside those of tiers and of lists of months
abbrev pub plain_names : List (List ℕ)
plain_names =
    codes "label" ∷ codes "dgrules" ∷ codes "energyweekdayschedule" ∷ codes "energyweekendschedule"
    ∷ codes "demandrateunit" ∷ codes "demandweekdayschedule" ∷ codes "demandweekendschedule" ∷ codes "flatdemandunit"
    ∷ codes "lookbackpercent" ∷ codes "fixedchargefirstmeter" ∷ codes "fixedchargeunits" ∷ codes "mincharge"
    ∷ codes "minchargeunits" ∷ codes "annualmincharge" ∷ codes "demandreactivepowercharge" ∷ []

-- a place is this column
abbrev pub is_column : ℕ → Option ℕ → Bool
is_column column None = false
is_column column (Some place) = place == column

-- the column is that of this name: of two of one name the first
abbrev pub has_name : Row → ℕ → List ℕ → Bool
has_name row column name = is_column column (column_of name row.header)

-- the structures whose tiers have columns
abbrev pub structures : List Structure
structures = Energy ∷ Demand ∷ FlatDemand ∷ Coincident ∷ []

-- the column is that of a part of a tier, of the tiers 0 to 15 of the periods 0 to 35
unfoldable pub is_tier_column : Row → ℕ → Bool
is_tier_column row column =
    list_any (λ structure. list_any (λ period. list_any (λ tier. list_any (λ part.
    is_column column (part_column row structure period tier part)) parts) (range_with_len 0 16)) (range_with_len 0 36)) structures

-- the column is that of a list of months: the one of the list, or one of the twelve where that isn't filled
abbrev pub is_month_column : Row → ℕ → MonthList → Bool
is_month_column row column list =
    has_name row column (list_name list)
    || (not (is_listed row list) && list_any (λ month. has_name row column (month_name list month)) (range_with_len 0 12))

-- the three lists of months
abbrev pub month_lists : List MonthList
month_lists = FlatPeriods ∷ Ratchets ∷ FuelAdjustments ∷ []

-- something is read from the column
unfoldable pub is_read : Row → ℕ → Bool
is_read row column =
    is_tier_column row column
    || (list_any (has_name row column) plain_names || list_any (is_month_column row column) month_lists)

-- nothing is read from the column though its cell is filled
abbrev pub is_ignored : Row → ℕ → Bool
is_ignored row column = is_filled (cell_in row.cells column) && not (is_read row column)

-- all such columns of the header, in order
unfoldable pub ignored_columns : Row → List ℕ
ignored_columns row = filter (is_ignored row) (range_with_len 0 (length row.header))

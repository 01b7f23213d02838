-- Where the items of a list of months stand in a row.
use Rattle.std.specs.Prelude.{◌≡◌, ℕ, ℤ, pos, slice_index_or, ◌<◌, ◌≤◌, true, false, List, length, All, Option, None, Some, Ok}
use Rattle.d_text.specs.declared.items.Span.{Span}
use Rattle.d_columns.specs.declared.month_list.MonthList.{MonthList}
use Rattle.d_urdb.specs.declared.months.Items.{Items}
use Rattle.d_columns.specs.MonthLists.{list_name, is_listed}
use Rattle.d_urdb.specs.Months.{item_cell}
use Rattle.d_urdb.specs.Numbers.{CellReader, IsCellReader}
use Rattle.d_urdb.specs.Periods.{number_or_0}
use Rattle.d_columns.specs.Tiers.{Row, named_cell}

-- the list is in one cell, and these are the parts of it that its items stand in
pub record AreListed (row : Row) (list : MonthList) (spans : List Span) : Type 0 where
  pub listed : is_listed row list ≡ true
  pub read : (reader : CellReader) → IsCellReader reader → reader.spans (named_cell row (list_name list)) ≡ Ok spans
  pub rise : All (λ span. span.from < span.to) spans
  pub end : All (λ span. span.to ≤ length (named_cell row (list_name list))) spans

-- the items stand in these parts of the one cell; or, where no parts are told, in twelve columns
abbrev pub AreSpansOf : Row → MonthList → Option (List Span) → Type 0
AreSpansOf row list None = is_listed row list ≡ false
AreSpansOf row list (Some spans) = AreListed row list spans

-- these are the items of that list
pub record AreItemsOf (row : Row) (list : MonthList) (items : Items) : Type 0 where
  pub list_is : items.list ≡ list
  pub spans_are : AreSpansOf row list items.spans

-- the number of a month's item; 0 where none can be read
abbrev pub item_number : CellReader → Row → MonthList → ℕ → ℕ → ℤ
item_number reader row list limit month = number_or_0 (reader.number limit (item_cell reader row list month))

-- these are the numbers of the twelve items
abbrev pub AreNumbersOf : CellReader → Row → MonthList → ℕ → List ℤ → Type 0
AreNumbersOf reader row list limit numbers = (month : ℕ) → month < 12 → slice_index_or numbers month (pos 0) ≡ item_number reader row list limit month

-- the same, whichever way the cells are read
abbrev pub AreNumbers : Row → MonthList → ℕ → List ℤ → Type 0
AreNumbers row list limit numbers = (reader : CellReader) → IsCellReader reader → AreNumbersOf reader row list limit numbers

-- Lists with an item for each month, January first. The rate database's bulk file has them in brackets in one cell, or in twelve columns
-- whose names end in the month's number; where the one cell is filled it counts, and the twelve aren't read. The limits are our own.
use Rattle.std.specs.Prelude.{ℕ, ◌-◌, List, [], take, drop, Option, None, Some, Result, Ok, Err, if◌then◌else◌, slice_index_or}
use Rattle.d_table.specs.Table.{column_of}
use Rattle.d_text.specs.declared.items.Span.{Span}
use Rattle.d_urdb.specs.declared.fault.Refused.{Refused}
use Rattle.d_columns.specs.declared.month_list.MonthList.{MonthList}
use Rattle.d_urdb.specs.Numbers.{CellReader}
use Rattle.d_urdb.specs.Periods.{fault_refusal}
use Rattle.d_urdb.specs.Refusals.{refusal}
use Rattle.d_columns.specs.MonthLists.{list_name, month_name, is_listed}
use Rattle.d_columns.specs.Tiers.{Row, named_cell}
use Rattle.d_urdb.specs.declared.cause.Cause.TheVariants as cause

-- where the items stand in a cell; nowhere where it is no list
abbrev pub spans_or_none : Result (List Span) ℕ → List Span
spans_or_none (Ok spans) = spans
spans_or_none (Err place) = []

-- a part of a cell
abbrev pub part_in : List ℕ → Span → List ℕ
part_in cell span = take (span.to - span.from) (drop span.from cell)

-- the item of a month in a cell's list
abbrev pub listed_item : CellReader → List ℕ → ℕ → List ℕ
listed_item reader cell month =
    part_in cell (slice_index_or (spans_or_none (reader.spans cell)) month (record { from = 0; to = 0 }))

-- the text of a month's item
abbrev pub item_cell : CellReader → Row → MonthList → ℕ → List ℕ
item_cell reader row list month =
    if is_listed row list then listed_item reader (named_cell row (list_name list)) month else named_cell row (month_name list month)

-- the column that a month's item stands in
abbrev pub item_column : Row → MonthList → ℕ → Option ℕ
item_column row list month =
    if is_listed row list then column_of (list_name list) row.header else column_of (month_name list month) row.header

-- 5: the one cell is no list of twelve items; the detail is the place
abbrev pub split_fault : Row → MonthList → Result (List Span) ℕ → Option Refused
split_fault row list (Ok spans) = None
split_fault row list (Err place) = Some (refusal row.header cause.Grid (column_of (list_name list) row.header) place)

-- 5: the list's own cell is filled and is no list of twelve items
abbrev pub list_refusal : CellReader → Row → MonthList → Option Refused
list_refusal reader row list =
    if is_listed row list then split_fault row list (reader.spans (named_cell row (list_name list))) else None

-- 4: a month's number can't be read
abbrev pub item_refusal : CellReader → Row → MonthList → ℕ → ℕ → Option Refused
item_refusal reader row list limit month =
    fault_refusal row (item_column row list month) (reader.number limit (item_cell reader row list month))

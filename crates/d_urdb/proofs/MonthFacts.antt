-- Lists of months in one cell or in twelve columns.
use Rattle.std.proofs.Common.{◌≡◌, ◌∙◌, ℕ, ℤ, ◌<◌, ◌≤◌, true, false, List, [], ◌∷◌, length, All, None, Some, Result, Ok, Err, refl, sym, ap, subst}
use Rattle.std.specs.Bool.{◌==◌}
use Rattle.d_table.specs.Table.{column_of}
use Rattle.d_text.specs.declared.items.Span.{Span}
use Rattle.d_text.specs.Grid.{IsListOf}
use Rattle.d_text.specs.declared.decimal.DecimalFault.{DecimalFault}
use Rattle.d_urdb.specs.declared.fault.Refused.{Refused}
use Rattle.d_columns.specs.declared.month_list.MonthList.{MonthList}
use Rattle.d_urdb.specs.Items.{AreListed}
use Rattle.d_columns.specs.MonthLists.{list_name, is_listed}
use Rattle.d_urdb.specs.Months.{item_cell, item_column, item_refusal, list_refusal}
use Rattle.d_urdb.specs.Numbers.{CellReader, IsCellReader, IsList}
use Rattle.d_urdb.specs.Refusals.{first_of, refusal, detail_of}
use Rattle.d_columns.specs.Tiers.{Row, named_cell, is_filled}
use Rattle.d_columns.proofs.CellFacts.{filled_cell}
use Rattle.d_urdb.proofs.HourFacts.{blank}
use Rattle.d_urdb.proofs.ReadOnce.{spans_once}
use Rattle.d_urdb.specs.declared.cause.Cause.TheVariants as cause

-- whether the list is in one cell, by its length
pub not_listed : (row : Row) (list : MonthList) (cell : List ℕ) → cell ≡ named_cell row (list_name list) → true ≡ (length cell == 0)
    → is_listed row list ≡ false
not_listed row list cell here is = ap is_filled (sym here ∙ blank cell is)

pub listed_is : (row : Row) (list : MonthList) (cell : List ℕ) → cell ≡ named_cell row (list_name list) → false ≡ (length cell == 0)
    → is_listed row list ≡ true
listed_is row list cell here is = ap is_filled (sym here) ∙ filled_cell cell is

-- the one cell is split in one way
pub spans_read : (row : Row) (list : MonthList) (cell : List ℕ) (result : Result (List Span) ℕ) → cell ≡ named_cell row (list_name list) → IsList cell result
    → (reader : CellReader) → IsCellReader reader → reader.spans (named_cell row (list_name list)) ≡ result
spans_read row list cell result here is reader are =
    ap reader.spans (sym here) ∙ spans_once cell (reader.spans cell) result (are.spans_is cell) is

-- a list that is split or not
pub unlisted_passes : (reader : CellReader) (row : Row) (list : MonthList) → is_listed row list ≡ false → first_of (list_refusal reader row list ∷ []) ≡ None
unfolding first_of
unlisted_passes reader row list none = rw none refl

pub listed_passes : (reader : CellReader) (row : Row) (list : MonthList) (spans : List Span) → is_listed row list ≡ true
    → reader.spans (named_cell row (list_name list)) ≡ Ok spans → first_of (list_refusal reader row list ∷ []) ≡ None
unfolding first_of
listed_passes reader row list spans listed is = rw (listed, is) refl

pub listed_refuses : (reader : CellReader) (row : Row) (list : MonthList) (place : ℕ) (refused : Refused) → is_listed row list ≡ true
    → reader.spans (named_cell row (list_name list)) ≡ Err place → refusal row.header cause.Grid (column_of (list_name list) row.header) place ≡ refused
    → first_of (list_refusal reader row list ∷ []) ≡ Some refused
unfolding first_of
listed_refuses reader row list place refused listed is same = rw (listed, is) (ap (λ r. Some r) same)

-- what the items of one cell keep
pub listed_items : (row : Row) (list : MonthList) (cell : List ℕ) (spans : List Span) → cell ≡ named_cell row (list_name list)
    → false ≡ (length cell == 0) → IsListOf cell spans → All (λ span. span.from < span.to) spans → All (λ span. span.to ≤ length cell) spans
    → AreListed row list spans
listed_items row list cell spans here some is rise end = record {
  listed = listed_is row list cell here some;
  read = spans_read row list cell (Ok spans) here is;
  rise = rise;
  end = subst (λ (text : List ℕ). All (λ (span : Span). span.to ≤ length text) spans) here end;
}

-- a month's number that is read or not
pub item_passes : (reader : CellReader) (row : Row) (list : MonthList) (limit month : ℕ) (value : ℤ)
    → reader.number limit (item_cell reader row list month) ≡ Ok value → first_of (item_refusal reader row list limit month ∷ []) ≡ None
unfolding first_of
item_passes reader row list limit month value is = rw is refl

pub item_refuses : (reader : CellReader) (row : Row) (list : MonthList) (limit month : ℕ) (fault : DecimalFault) (refused : Refused)
    → reader.number limit (item_cell reader row list month) ≡ Err fault
    → refusal row.header cause.Decimal (item_column row list month) (detail_of fault) ≡ refused
    → first_of (item_refusal reader row list limit month ∷ []) ≡ Some refused
unfolding first_of
item_refuses reader row list limit month fault refused is same = rw is (ap (λ r. Some r) same)

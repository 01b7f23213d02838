use Rattle.std.proofs.Common.{◌∙◌, sym}
use Rattle.d_columns.proofs.IgnoredFacts.{first_holds, second_holds, last_decides}
use Rattle.d_columns.proofs.cells.Cells.is_in_month_list.Goals as goal

pub returns-then-is_month_column : goal.returns-then-is_month_column
returns-then-is_month_column c = first_holds _ _ (sym c.is_month_column.ensures ∙ c.if-is_month_column.true)

pub returns-then-is_month_column-2 : goal.returns-then-is_month_column-2
returns-then-is_month_column-2 c =
    second_holds _ _ _ c.is_month_column-2.result (sym c.is_month_column.ensures ∙ c.if-is_month_column.false) c.is_month_column-2.ensures
    c.if-is_month_column-2.true

pub returns-else-is_month_column-2 : goal.returns-else-is_month_column-2
returns-else-is_month_column-2 c =
    last_decides _ _ _ c.is_month_column-else-is_month_column-2.result (sym c.is_month_column.ensures ∙ c.if-is_month_column.false)
    (sym c.is_month_column-2.ensures ∙ c.if-is_month_column-2.false) c.is_month_column-else-is_month_column-2.ensures

use Rattle.std.proofs.Common.{◌∙◌, sym}
use Rattle.d_columns.specs.Ignored.{is_read}
use Rattle.d_columns.proofs.IgnoredFacts.{first_holds, second_holds, third_decides}
use Rattle.d_columns.proofs.cells.Cells.is_read.Goals as goal

pub returns-then-is_tier_column : goal.returns-then-is_tier_column
unfolding is_read
returns-then-is_tier_column c = first_holds _ _ (sym c.is_tier_column.ensures ∙ c.if-is_tier_column.true)

pub returns-then-has_one_of : goal.returns-then-has_one_of
unfolding is_read
returns-then-has_one_of c =
    second_holds _ _ _ c.has_one_of.result (sym c.is_tier_column.ensures ∙ c.if-is_tier_column.false) c.has_one_of.ensures c.if-has_one_of.true

pub returns-else-has_one_of : goal.returns-else-has_one_of
unfolding is_read
returns-else-has_one_of c =
    third_decides _ _ _ c.is_in_month_list.result (sym c.is_tier_column.ensures ∙ c.if-is_tier_column.false) (sym c.has_one_of.ensures ∙ c.if-has_one_of.false)
    c.is_in_month_list.ensures

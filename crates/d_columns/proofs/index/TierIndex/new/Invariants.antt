use Rattle.d_columns.specs.Tiers.{data_row}
use Rattle.d_columns.specs.Index.{first_columns, IsIndexOf}
use Rattle.d_columns.proofs.index.TierIndex.new.Given as goal

abbrev pub invariant-loop-column : goal.invariant-loop-column
invariant-loop-column l = IsIndexOf (first_columns l.column (data_row l.fn.table l.fn.row)) l.index

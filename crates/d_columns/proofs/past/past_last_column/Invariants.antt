use Rattle.d_columns.specs.Tiers.{data_row}
use Rattle.d_columns.specs.Past.{IsFirstPast}
use Rattle.d_columns.proofs.past.past_last_column.Given as goal

abbrev pub invariant-loop-column : goal.invariant-loop-column
invariant-loop-column l = IsFirstPast (data_row l.fn.table l.fn.row) l.fn.structure l.fn.period l.column l.first

use Rattle.d_columns.specs.Tiers.{data_row}
use Rattle.d_columns.proofs.cells.Cells.part_column.Goals as goal

pub returns-clause-value : goal.returns-clause-value
returns-clause-value c = c.column.ensures.value (data_row c.args.self.now.table.now c.args.self.now.row) c.args.self.now.indexed

pub returns-clause-within : goal.returns-clause-within
returns-clause-within c = c.column.ensures.within (data_row c.args.self.now.table.now c.args.self.now.row) c.args.self.now.indexed

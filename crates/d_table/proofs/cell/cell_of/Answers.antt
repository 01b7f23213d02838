use Rattle.csv.specs.Records.{fields_of}
use Rattle.d_table.proofs.CellFacts.{cell_found, cell_missing}
use Rattle.d_table.proofs.cell.cell_of.Goals as goal

pub returns-in-Some : goal.returns-in-Some
returns-in-Some c = rw (c.before_blanks.ensures, c.behind_blanks.ensures) (cell_found (fields_of c.args.row.now) c.args.column c.in-Some.field.now c.in-Some.ensures.value)

pub returns-in-None : goal.returns-in-None
returns-in-None c = cell_missing (fields_of c.args.row.now) c.args.column c.in-None.ensures.value

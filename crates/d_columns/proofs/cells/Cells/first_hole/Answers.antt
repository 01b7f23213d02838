use Rattle.d_columns.specs.Shown.{row_of}
use Rattle.d_columns.proofs.HoleCells.{inner_found, late_read}
use Rattle.d_columns.proofs.HoleFacts.{none_at_all}
use Rattle.d_columns.proofs.cells.Cells.first_hole.Goals as goal

pub returns-in-Some : goal.returns-in-Some
returns-in-Some c = inner_found (row_of c.args.self.now) c.args.structure c.args.period c.in-Some.tier c.first_filled.result c.in-Some.ensures c.first_filled.ensures

pub returns-then-may_pass_last : goal.returns-then-may_pass_last
returns-then-may_pass_last c = late_read (row_of c.args.self.now) c.args.structure c.args.period c.past_last_column.result c.in_default.ensures c.past_last_column.ensures

pub returns : goal.returns
returns c =
    none_at_all (row_of c.args.self.now) c.args.structure c.args.period c.in_default.ensures
    (c.may_pass_last.ensures (row_of c.args.self.now) c.args.self.now.indexed c.if-may_pass_last.false)

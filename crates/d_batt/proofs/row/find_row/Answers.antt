use Rattle.d_batt.proofs.RowFacts.{none_named, other_named, here_named}
use Rattle.d_batt.proofs.row.find_row.Goals as goal

pub loop-row-init : goal.loop-row-init
loop-row-init c = none_named c.args.table.now c.args.kind.now c.args.name.now

pub returns-then-has_name-clause-value : goal.returns-then-has_name-clause-value
returns-then-has_name-clause-value c =
    here_named c.args.table.now c.loop-row.row c.args.count c.args.kind.now c.args.name.now c.has_name.result c.loop-row-test.true c.has_name.ensures
    c.if-has_name.true c.loop-row.invariant

pub loop-row-preserved : goal.loop-row-preserved
loop-row-preserved c =
    other_named c.args.table.now c.loop-row.row c.args.kind.now c.args.name.now c.has_name.result c.has_name.ensures c.if-has_name.false c.loop-row.invariant

use Rattle.d_batt.proofs.LevelFacts.{value_none, value_some}
use Rattle.d_batt.proofs.level.value_of.Goals as goal

pub returns-in_err-row-clause-value : goal.returns-in_err-row-clause-value
returns-in_err-row-clause-value c =
    rw c.from_residual.ensures (value_none c.args.table.now c.args.setting c.in_err-row.ensures.value)

pub returns-clause-value : goal.returns-clause-value
returns-clause-value c =
    value_some c.args.table.now c.args.setting c.in_ok-row.row c.cell.result.now c.read_whole.result c.setting_within.result c.in_ok-row.ensures.value
    c.cell.ensures c.read_whole.ensures c.setting_within.ensures.value

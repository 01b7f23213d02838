use Rattle.std.proofs.Common.{◌∙◌, inr, true, false, Some, None, ap}
use Rattle.std.specs.Bool.{⊤}
use Rattle.d_batt.proofs.RowFacts.{kind_is, twice_is, row_unknown, row_twice, row_sets, row_has, modes_kept, modes_more, where_ok, ok_since}
use Rattle.d_batt.proofs.row.read_row.Goals as goal

pub returns-in_default-clause-refusals : goal.returns-in_default-clause-refusals
returns-in_default-clause-refusals c =
    inr (row_unknown c.args.table.now c.args.row
    (kind_is c.args.table.now c.args.row c.cell-kind.result.now c.cell-name.result.now None c.cell-kind.ensures c.cell-name.ensures c.in_default.ensures))

pub returns-then-is_some-clause-refusals : goal.returns-then-is_some-clause-refusals
returns-then-is_some-clause-refusals c =
    inr (row_twice c.args.table.now c.args.row c.in-Some.says
    (kind_is c.args.table.now c.args.row c.cell-kind.result.now c.cell-name.result.now (Some c.in-Some.says) c.cell-kind.ensures c.cell-name.ensures c.in-Some.ensures)
    (twice_is c.args.table.now c.args.row c.cell-kind.result.now c.cell-name.result.now c.find_row.result c.is_some.result true c.cell-kind.ensures
    c.cell-name.ensures c.find_row.ensures.value c.is_some.ensures c.if-is_some.true))

pub returns-in-Sets-clause-refusals : goal.returns-in-Sets-clause-refusals
returns-in-Sets-clause-refusals c =
    row_sets ⊤ c.args.table.now c.args.row c.in-Sets.setting c.check_setting.result
    (kind_is c.args.table.now c.args.row c.cell-kind.result.now c.cell-name.result.now (Some c.in-Some.says) c.cell-kind.ensures c.cell-name.ensures c.in-Some.ensures
    ∙ ap Some c.in-Sets.is)
    (twice_is c.args.table.now c.args.row c.cell-kind.result.now c.cell-name.result.now c.find_row.result c.is_some.result false c.cell-kind.ensures
    c.cell-name.ensures c.find_row.ensures.value c.is_some.ensures c.if-is_some.false) c.check_setting.ensures

pub returns-in-Sets-clause-modes : goal.returns-in-Sets-clause-modes
returns-in-Sets-clause-modes c =
    where_ok _ _ _ c.check_setting.result (modes_kept c.args.table.now c.args.row c.in-Sets.setting c.args.modes.now
    (kind_is c.args.table.now c.args.row c.cell-kind.result.now c.cell-name.result.now (Some c.in-Some.says) c.cell-kind.ensures c.cell-name.ensures c.in-Some.ensures
    ∙ ap Some c.in-Sets.is) c.requires.modes)

pub returns-in-HasMode-clause-refusals : goal.returns-in-HasMode-clause-refusals
returns-in-HasMode-clause-refusals c =
    row_has ⊤ c.args.table.now c.args.row c.add_mode.result
    (kind_is c.args.table.now c.args.row c.cell-kind.result.now c.cell-name.result.now (Some c.in-Some.says) c.cell-kind.ensures c.cell-name.ensures c.in-Some.ensures
    ∙ ap Some c.in-HasMode.is)
    (twice_is c.args.table.now c.args.row c.cell-kind.result.now c.cell-name.result.now c.find_row.result c.is_some.result false c.cell-kind.ensures
    c.cell-name.ensures c.find_row.ensures.value c.is_some.ensures c.if-is_some.false) c.add_mode.ensures.refusals

pub returns-in-HasMode-clause-modes : goal.returns-in-HasMode-clause-modes
returns-in-HasMode-clause-modes c =
    ok_since _ _ _ _ c.add_mode.result (modes_more c.args.table.now c.args.row c.add_mode.new.modes
    (kind_is c.args.table.now c.args.row c.cell-kind.result.now c.cell-name.result.now (Some c.in-Some.says) c.cell-kind.ensures c.cell-name.ensures c.in-Some.ensures
    ∙ ap Some c.in-HasMode.is)) c.add_mode.ensures.modes

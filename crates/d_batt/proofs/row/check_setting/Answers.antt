use Rattle.std.proofs.Common.{inr}
use Rattle.d_batt.proofs.RowFacts.{setting_unread, setting_beyond, setting_passes}
use Rattle.d_batt.proofs.row.check_setting.Goals as goal

pub returns-then-is_unread : goal.returns-then-is_unread
returns-then-is_unread c =
    inr (setting_unread c.args.table.now c.args.row c.args.setting c.cell.result.now c.read_whole-number.result c.cell.ensures c.read_whole-number.ensures
    c.is_unread.result c.is_unread.ensures c.if-is_unread.true)

pub returns-then-is_none : goal.returns-then-is_none
returns-then-is_none c =
    inr (setting_beyond c.args.table.now c.args.row c.args.setting c.cell.result.now c.read_whole-number.result c.cell.ensures c.read_whole-number.ensures
    c.is_unread.result c.setting_within.result c.is_none.result c.is_unread.ensures c.if-is_unread.false c.setting_within.ensures.value
    c.is_none.ensures c.if-is_none.true)

pub returns : goal.returns
returns c =
    setting_passes c.args.table.now c.args.row c.args.setting c.cell.result.now c.read_whole-number.result c.cell.ensures c.read_whole-number.ensures
    c.is_unread.result c.setting_within.result c.is_none.result c.is_unread.ensures c.if-is_unread.false c.setting_within.ensures.value
    c.is_none.ensures c.if-is_none.false

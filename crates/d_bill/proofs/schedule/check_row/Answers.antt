use Rattle.std.proofs.Common.{◌∙◌, ap, not, rules}
use Rattle.d_bill.specs.ScheduleFile.{HasStart}
use Rattle.d_bill.proofs.ScheduleRows.{no_mode, mode_found}
use Rattle.d_bill.proofs.schedule.check_row.Goals as goal

pub returns-then-is_none-clause-fault : goal.returns-then-is_none-clause-fault
returns-then-is_none-clause-fault c =
    let i = c.args.problem.now in
    let start : HasStart i c.args.table.now c.args.t = search rules in
    let none = c.is_none.ensures ∙ ap not c.if-is_none.true in
    record {
      right = c.requires.right;
      there = c.requires.there;
      start = start;
      wrong = no_mode i c.args.table.now c.args.t c.cell.result.now c.mode_named.result c.cell.ensures none c.mode_named.ensures.none;
    }

pub returns-clause-right : goal.returns-clause-right
returns-clause-right c =
    let i = c.args.problem.now in
    let start : HasStart i c.args.table.now c.args.t = search rules in
    let some = c.is_none.ensures ∙ ap not c.if-is_none.false in
    mode_found i c.args.table.now c.args.t c.cell.result.now c.mode_named.result c.cell.ensures some c.mode_named.ensures.some c.requires.right start

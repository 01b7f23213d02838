use Rattle.std.proofs.Common.{◌+◌, ◌∙◌, refl}
use Rattle.d_table.specs.Table.{row_at, cell_in}
use Rattle.d_cal.specs.Starts.{start_of}
use Rattle.d_bill.proofs.StartFacts.{is_due, is_no_start}
use Rattle.d_bill.proofs.schedule.has_start.Goals as goal

pub returns-in-Some : goal.returns-in-Some
returns-in-Some c =
    let i = c.args.problem.now in
    is_due c.cell.result.now (cell_in (row_at c.args.table.now (c.args.t + 1)) 0) c.in-Some.start c.of.result (start_of i.year i.number i.minutes c.args.t) c.eq.result
    c.cell.ensures (c.of.ensures.value ∙ rw (c.month.ensures.year, c.month.ensures.number, c.minutes.ensures) refl) c.in-Some.ensures.some c.eq.ensures

pub returns-in-None : goal.returns-in-None
returns-in-None c =
    let i = c.args.problem.now in
    is_no_start c.cell.result.now (cell_in (row_at c.args.table.now (c.args.t + 1)) 0) (start_of i.year i.number i.minutes c.args.t) c.cell.ensures c.in-None.ensures.none

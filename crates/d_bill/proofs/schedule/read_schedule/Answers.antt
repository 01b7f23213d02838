use Rattle.std.proofs.Common.{ℕ, ◌<◌, arith, length}
use Rattle.d_bill.proofs.ScheduleRows.{must_find, rows_read}
use Rattle.d_bill.proofs.schedule.read_schedule.Goals as goal

pub unwrap-requires : goal.unwrap-requires
unwrap-requires c =
    let i = c.args.problem.now in
    let within : c.loop-t.t < length i.net = omega (arith, c.loop-t-test.true, c.intervals-t-end.ensures.value) in
    must_find i c.args.table.now (length i.net) c.loop-t.t c.cell.result.now c.mode_named.result c.cell.ensures c.in_ok-check_rows.ensures.right within c.mode_named.ensures.none

pub returns-clause-read : goal.returns-clause-read
returns-clause-read c =
    let i = c.args.problem.now in
    let modes = λ (t : ℕ) (within : t < length i.net). c.loop-t.invariant.1 t (omega (arith, c.loop-t-test.false, c.intervals-t-end.ensures.value)) in
    rows_read i c.args.table.now c.loop-t.schedule c.in_ok-check_rows.ensures.right c.loop-t.invariant.0 modes

use Rattle.d_bill.specs.ScheduleFile.{IsRightTo}
use Rattle.d_bill.proofs.schedule.check_rows.Given as goal

abbrev pub invariant-loop-t : goal.invariant-loop-t
invariant-loop-t l = IsRightTo l.problem l.table l.t

use Rattle.std.proofs.Common.{◌≡◌, ◌++◌, pos}
use Rattle.d_bill.specs.Schedules.{level_at}
use Rattle.d_report.specs.Lines.{texts_of}
use Rattle.d_report.specs.Plans.{schedule_line}
use Rattle.d_report.proofs.plan.put_schedule.Given as goal

-- the lines so far, and the level that the battery has come to
abbrev pub invariant-loop-t : goal.invariant-loop-t
invariant-loop-t l =
    (l.text.items ≡ l.fn.text.items ++ texts_of l.t (schedule_line l.problem l.schedule)) × (pos l.level ≡ level_at l.problem l.schedule l.t)

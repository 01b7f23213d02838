use Rattle.std.proofs.Common.{ℕ, ◌<◌}
use Rattle.d_bill.specs.ScheduleFile.{IsModeNamed}
use Rattle.d_bill.proofs.schedule.mode_named.Given as goal

abbrev pub invariant-loop-number : goal.invariant-loop-number
invariant-loop-number l = (k : ℕ) → k < l.number → ¬ IsModeNamed l.modes l.name k

use Rattle.std.proofs.Common.{◌≡◌, ℕ, ◌<◌, length}
use Rattle.std.specs.Prelude.{slice_index}
use Rattle.d_bill.specs.ScheduleFile.{NamesMode}
use Rattle.d_bill.proofs.schedule.read_schedule.Given as goal

abbrev pub invariant-loop-t : goal.invariant-loop-t
invariant-loop-t l = (length l.schedule ≡ length l.problem.net) × ((k : ℕ) → k < l.t → NamesMode l.problem l.table k (slice_index l.schedule k))

use Rattle.std.proofs.Common.{◌≡◌, ◌≤◌, drop}
use Rattle.d_urdb.specs.FlatMonths.{period_in}
use Rattle.d_urdb.proofs.PeriodRead.{period_behind}
use Rattle.d_urdb.proofs.flat_months.read_period.Given as goal

abbrev pub invariant-loop-place : goal.invariant-loop-place
invariant-loop-place l = (l.number ≤ 35) × (period_in l.fn.text ≡ period_behind l.number (drop l.place l.fn.text))

use Rattle.std.proofs.Common.{◌+◌}
use Rattle.d_path.specs.Arcs.{arcs_of}
use Rattle.d_path.specs.Days.{IsOnWay}
use Rattle.d_path.proofs.days.walk_day.Given as goal

-- the moves so far begin the first cheapest way
abbrev pub invariant-loop-i : goal.invariant-loop-i
invariant-loop-i l = IsOnWay (arcs_of l.ways) (l.begin + l.i) l.level l.schedule

use Rattle.d_path.specs.Arcs.{arcs_of}
use Rattle.d_path.proofs.DayWalks.{IsWalked}
use Rattle.d_path.proofs.days.first_cheapest_days.Given as goal

-- the moves of the days so far begin the first cheapest way, and the kept rows are as they were
abbrev pub invariant-loop-day : goal.invariant-loop-day
invariant-loop-day l = IsWalked (arcs_of l.ways) l.day l.fn.layers l.layers l.level l.schedule

use Rattle.d_path.specs.Arcs.{arcs_of}
use Rattle.d_path.proofs.DayLemmas.{IsDayFrom}
use Rattle.d_path.proofs.days.fill_day.Given as goal

-- the window's rows from here on have the least costs of the day
abbrev pub invariant-loop-i : goal.invariant-loop-i
invariant-loop-i l = IsDayFrom (arcs_of l.ways) l.day l.i l.fn.layers l.layers

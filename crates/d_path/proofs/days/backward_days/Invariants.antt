use Rattle.d_path.specs.Arcs.{arcs_of}
use Rattle.d_path.proofs.DayLemmas.{AreKeptFrom}
use Rattle.d_path.proofs.days.backward_days.Given as goal

-- the kept rows from here on have the least costs
abbrev pub invariant-loop-day : goal.invariant-loop-day
invariant-loop-day l = AreKeptFrom (arcs_of l.ways) l.day l.fn.layers l.layers

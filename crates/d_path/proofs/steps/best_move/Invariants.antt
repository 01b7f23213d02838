use Rattle.d_path.specs.Arcs.{arcs_of}
use Rattle.d_path.specs.Best.{IsFirstBest, cost_by}
use Rattle.d_path.proofs.steps.best_move.Given as goal

-- the best of the moves so far
abbrev pub invariant-loop-number : goal.invariant-loop-number
invariant-loop-number l = IsFirstBest (cost_by (arcs_of l.ways) l.costs l.next l.level) l.number l.least l.first

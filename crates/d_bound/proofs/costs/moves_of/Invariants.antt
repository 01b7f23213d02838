use Rattle.std.proofs.Common.{◌≡◌, map, take}
use Rattle.d_bound.specs.PlanWays.{move_of}
use Rattle.d_bound.proofs.costs.moves_of.Given as goal

-- the modes so far are moves
abbrev pub invariant-loop-mode : goal.invariant-loop-mode
invariant-loop-mode l = l.moves.items ≡ map move_of (take l.mode-index l.modes)

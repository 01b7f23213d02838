use Rattle.d_bound.specs.RootSteps.{AreDrawnTo}
use Rattle.d_bound.proofs.roots.drawn_powers.Given as goal

-- the powers so far
abbrev pub invariant-loop-place : goal.invariant-loop-place
invariant-loop-place l = AreDrawnTo l.problem l.group l.place l.list.items

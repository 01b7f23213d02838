use Rattle.d_bound.specs.RootSteps.{IsRootTo}
use Rattle.d_bound.proofs.roots.root_of.Given as goal

-- the ranges so far
abbrev pub invariant-loop-group : goal.invariant-loop-group
invariant-loop-group l = IsRootTo l.candidates l.group l.space

use Rattle.d_bound.specs.CapSteps.{IsCapTo}
use Rattle.d_bound.proofs.caps.cap_at.Given as goal

-- the cap of the groups so far
abbrev pub invariant-loop-group : goal.invariant-loop-group
invariant-loop-group l = IsCapTo l.problem l.space l.interval l.group l.cap

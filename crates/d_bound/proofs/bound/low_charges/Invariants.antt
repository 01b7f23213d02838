use Rattle.d_bound.proofs.LowFacts.{IsLowSum}
use Rattle.d_bound.proofs.bound.low_charges.Given as goal

-- the charges so far
abbrev pub invariant-loop-group : goal.invariant-loop-group
invariant-loop-group l = IsLowSum l.problem l.space l.group l.sum

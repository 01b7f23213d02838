use Rattle.std.proofs.Common.{◌≡◌, ◌*◌, take}
use Rattle.d_bound.specs.Bounders.{capped_costs}
use Rattle.d_bound.proofs.caps.cap_costs.Given as goal

-- the intervals so far have what their modes cost within the caps
abbrev pub invariant-loop-interval : goal.invariant-loop-interval
invariant-loop-interval l = take (l.interval * l.modes) l.capped ≡ take (l.interval * l.modes) (capped_costs l.problem l.space)

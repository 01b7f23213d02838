use Rattle.d_tier.specs.Steps.{IsLowestTo}
use Rattle.d_tier.proofs.tiers.Tiers.inner_end.Given as goal

abbrev pub invariant-loop-tier : goal.invariant-loop-tier
invariant-loop-tier l = IsLowestTo l.self l.low l.high l.tier l.lowest

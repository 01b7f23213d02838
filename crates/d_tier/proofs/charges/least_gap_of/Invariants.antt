use Rattle.d_tier.proofs.GapFacts.{IsLeastTo}
use Rattle.d_tier.proofs.charges.least_gap_of.Given as goal

abbrev pub invariant-loop-tier : goal.invariant-loop-tier
invariant-loop-tier l = IsLeastTo l.tiers l.low l.high l.slope l.tier-index l.least

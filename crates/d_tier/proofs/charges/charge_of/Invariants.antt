use Rattle.d_tier.proofs.ChargeFacts.{IsChargedTo}
use Rattle.d_tier.proofs.charges.charge_of.Given as goal

abbrev pub invariant-loop-tier : goal.invariant-loop-tier
invariant-loop-tier l = IsChargedTo l.tiers l.amount l.tier-index l.begin l.charge

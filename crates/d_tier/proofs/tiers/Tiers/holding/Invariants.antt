use Rattle.std.proofs.Common.{◌≡◌, ◌+◌, drop}
use Rattle.d_tier.specs.TierEnds.{holding}
use Rattle.d_tier.proofs.tiers.Tiers.holding.Given as goal

abbrev pub invariant-loop-tier : goal.invariant-loop-tier
invariant-loop-tier l = l.tier + holding (drop l.tier l.self) l.amount ≡ holding l.self l.amount

use Rattle.std.proofs.Common.{ℕ, ◌<◌, ◌≤ℤ◌}
use Rattle.std.specs.List.{Contains}
use Rattle.d_tier.specs.Tables.{prices_of, price_at}
use Rattle.d_tier.proofs.tiers.highest_of.Given as goal

abbrev pub invariant-loop-tier : goal.invariant-loop-tier
invariant-loop-tier l =
    Contains (prices_of l.tiers) l.highest × ((k : ℕ) → k < l.tier-index → price_at l.tiers k ≤ℤ l.highest)

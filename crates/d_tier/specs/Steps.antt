-- What loops have found so far; only private functions cite these words.
use Rattle.std.specs.Prelude.{ℕ, ℤ, ◌≡◌, ◌⊎◌, ◌≤ℤ◌, ◌<ℤ◌, List, Option, Some}
use Rattle.d_tier.specs.Gaps.{gap_at}
use Rattle.d_tier.specs.TierEnds.{HasNoInner, IsLowestInner}
use Rattle.d_tier.specs.declared.tier.Tier.{Tier}

-- the gap of an amount strictly between both ends of a range
pub record IsInnerGap (tiers : List Tier) (low high slope gap : ℤ) : Type 0 where
  pub amount : ℤ
  pub above : low <ℤ amount
  pub below : amount <ℤ high
  pub is : gap ≡ gap_at tiers slope amount

-- what the loop over tiers has found
pub record IsLowestTo (tiers : List Tier) (low high : ℤ) (n : ℕ) (lowest : ℤ) : Type 0 where
  pub none : HasNoInner tiers low lowest n
  pub reached : (lowest ≡ high) ⊎ IsLowestInner tiers low high n lowest

-- the lower of what was found and of a tier's end, where that is above the low end
pub record IsLowered (low lowest : ℤ) (end : Option ℤ) (lower : ℤ) : Type 0 where
  pub below : (e : ℤ) → end ≡ Some e → low <ℤ e → lower ≤ℤ e
  pub kept : lower ≤ℤ lowest
  pub one : (lower ≡ lowest) ⊎ ((end ≡ Some lower) × (low <ℤ lower) × (lower <ℤ lowest))

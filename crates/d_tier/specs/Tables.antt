-- Tables of marginal tiers (the Utility Rate Database's `rate` and `max` of a period's tiers): the part of an amount that lies in a
-- tier has the tier's price. A tier begins where the one before it ends, the first at 0.
use Rattle.std.specs.Prelude.{◌≡◌, ◌≢◌, ◌≤◌, ◌^◌, ℕ, ℤ, pos, ◌≤ℤ◌, ◌<ℤ◌, List, [], ◌∷◌, Option, Some, None, option_and_then, unwrap_or, map, length, All, slice_get, slice_index_or, if◌then◌else◌}
use Rattle.std.specs.Ordering.{int_eq}
use Rattle.std.specs.List.{Contains}
use Rattle.d_tier.specs.declared.tier.Tier.{Tier}

-- where a tier may end: from 1 to 10^13 Wh or W (our own limit)
abbrev pub IsTierEnd : ℤ → Type 0
IsTierEnd end = (pos 1 ≤ℤ end) × (end ≤ℤ pos (10 ^ 13))

-- a tier that begins at `start` ends at `end`, which is above it, and the next tier has another price
pub record IsFollowed (start end : ℤ) (tier next : Tier) : Type 0 where
  pub there : tier.end ≡ Some end
  pub above : start <ℤ end
  pub range : IsTierEnd end
  pub apart : tier.price ≢ next.price

-- tiers, the first of which begins at `start`: each but the last is followed by the next, and the last has no end
abbrev pub AreTiersFrom : ℤ → List Tier → Type 0
AreTiersFrom start [] = ⊥
AreTiersFrom start (tier ∷ []) = tier.end ≡ None
AreTiersFrom start (tier ∷ next ∷ rest) = (end : ℤ) × IsFollowed start end tier next × AreTiersFrom end (next ∷ rest)

-- what every table keeps: 1 to 16 tiers from 0 on (our own limit on their number)
pub record IsTierTable (tiers : List Tier) : Type 0 where
  pub few : length tiers ≤ 16
  pub whole : AreTiersFrom (pos 0) tiers

-- the last end that stands in the tiers, or `start` where none does
abbrev pub last_end_from : ℤ → List Tier → ℤ
last_end_from start [] = start
last_end_from start (tier ∷ rest) = last_end_from (unwrap_or tier.end start) rest

-- where the last tier begins
abbrev pub last_end : List Tier → ℤ
last_end tiers = last_end_from (pos 0) tiers

-- a tier without an end
abbrev pub open_tier : ℤ → Tier
open_tier price = record { price = price; end = None }

-- the tiers and one more behind them, which begins at `end`; where the last tier has that price already it goes on instead, since
-- neighbours of one price are one tier
abbrev pub with_tier : ℤ → ℤ → List Tier → List Tier
with_tier end price [] = []
with_tier end price (tier ∷ []) =
    if int_eq tier.price price then tier ∷ [] else record tier { end = Some end } ∷ open_tier price ∷ []
with_tier end price (tier ∷ next ∷ rest) = tier ∷ with_tier end price (next ∷ rest)

-- the prices in order
abbrev pub prices_of : List Tier → List ℤ
prices_of tiers = map (λ tier. tier.price) tiers

-- the price of a tier, counted from 0
abbrev pub price_at : List Tier → ℕ → ℤ
price_at tiers k = slice_index_or (prices_of tiers) k (pos 0)

-- the end of a tier, counted from 0; None where it has none
abbrev pub end_at : List Tier → ℕ → Option ℤ
end_at tiers k = option_and_then (λ tier. tier.end) (slice_get tiers k)

-- one of the prices, and none is below it
pub record IsLowestPrice (tiers : List Tier) (price : ℤ) : Type 0 where
  pub one : Contains (prices_of tiers) price
  pub lowest : All (λ other. price ≤ℤ other) (prices_of tiers)

-- one of the prices, and none is above it
pub record IsHighestPrice (tiers : List Tier) (price : ℤ) : Type 0 where
  pub one : Contains (prices_of tiers) price
  pub highest : All (λ other. other ≤ℤ price) (prices_of tiers)

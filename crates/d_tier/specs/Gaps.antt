-- By how much a charge is more than a price for each unit of the amount, and the least of that over the amounts of a range. The words are
-- our own.
use Rattle.std.specs.Prelude.{ℕ, zero, suc, ℤ, pos, ◌+ℤ◌, ◌-ℤ◌, ◌*ℤ◌, ◌≡◌, ◌≤ℤ◌, List, unsigned_abs}
use Rattle.std.specs.Int.{int_min}
use Rattle.d_tier.specs.Charges.{tier_charge}
use Rattle.d_tier.specs.declared.tier.Tier.{Tier}

-- by how much the charge of an amount is more than its price at a slope, which is a price for each unit
abbrev pub gap_at : List Tier → ℤ → ℤ → ℤ
gap_at tiers slope x = tier_charge tiers x -ℤ slope *ℤ x

-- the least of f low, f (low + 1) .. f (low + n)
unfoldable pub least_from : ℤ → ℕ → (ℤ → ℤ) → ℤ
least_from low zero f = f low
least_from low (suc n) f = int_min (least_from low n f) (f (low +ℤ pos (suc n)))

-- the least gap of all whole amounts from `low` to `high`
abbrev pub least_gap : List Tier → ℤ → ℤ → ℤ → ℤ
least_gap tiers low high slope = least_from low (unsigned_abs (high -ℤ low)) (gap_at tiers slope)

-- the least of what f gives from `low` to `high`: a whole number there reaches it, and none there goes below it
pub record IsLeastOf (f : ℤ → ℤ) (low high least : ℤ) : Type 0 where
  pub amount : ℤ
  pub above : low ≤ℤ amount
  pub below : amount ≤ℤ high
  pub reached : least ≡ f amount
  pub none_below : (x : ℤ) → low ≤ℤ x → x ≤ℤ high → least ≤ℤ f x

-- the least gap is the least of the gaps of its range
abbrev pub LeastGapIsLeast : Type 0
LeastGapIsLeast =
    (tiers : List Tier) (low high slope : ℤ) → low ≤ℤ high → IsLeastOf (gap_at tiers slope) low high (least_gap tiers low high slope)

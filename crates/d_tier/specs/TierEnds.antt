-- Which tier holds an amount, and where a table changes its price strictly between two amounts.
use Rattle.std.specs.Prelude.{ℕ, suc, ℤ, ◌≤ℤ◌, ◌<ℤ◌, ◌≡◌, ◌<◌, Bool, false, int_le, if◌then◌else◌, List, [], ◌∷◌, Option, Some, None}
use Rattle.d_tier.specs.Tables.{end_at}
use Rattle.d_tier.specs.declared.tier.Tier.{Tier}

-- whether a tier ends at an amount or below it
abbrev pub ends_by : Option ℤ → ℤ → Bool
ends_by None x = false
ends_by (Some end) x = int_le end x

-- the tier that holds an amount: the first whose end is greater than the amount, or the last; counted from 0
unfoldable pub holding : List Tier → ℤ → ℕ
holding [] x = 0
holding (tier ∷ []) x = 0
holding (tier ∷ next ∷ rest) x = if ends_by tier.end x then suc (holding (next ∷ rest) x) else 0

-- none of the first n tiers ends strictly between both amounts
abbrev pub HasNoInner : List Tier → ℤ → ℤ → ℕ → Type 0
HasNoInner tiers low high n = (k : ℕ) (end : ℤ) → k < n → end_at tiers k ≡ Some end → low <ℤ end → high ≤ℤ end

-- this is the lowest end of the first n tiers strictly between both amounts
pub record IsLowestInner (tiers : List Tier) (low high : ℤ) (n : ℕ) (at : ℤ) : Type 0 where
  pub tier : ℕ
  pub inside : tier < n
  pub there : end_at tiers tier ≡ Some at
  pub above : low <ℤ at
  pub below : at <ℤ high
  pub lowest : HasNoInner tiers low at n

-- the lowest such end is found, or there is none
abbrev pub IsInnerEnd : List Tier → ℤ → ℤ → ℕ → Option ℤ → Type 0
IsInnerEnd tiers low high n None = HasNoInner tiers low high n
IsInnerEnd tiers low high n (Some at) = IsLowestInner tiers low high n at

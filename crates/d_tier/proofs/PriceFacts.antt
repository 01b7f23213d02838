-- What holds of each price of a table.
use Rattle.std.proofs.Common.{◌≡◌, ◌⊎◌, inl, inr, ℕ, ℤ, pos, ◌+◌, ◌≤◌, ◌<◌, List, length, slice_index_or, All, arith, sym, ap, subst, ◌∙◌}
use Rattle.std.proofs.lemmas.List.{get_or-map, get_or_default, length-map}
use Rattle.std.specs.List.{Contains}
use Rattle.d_tier.specs.declared.tier.Tier.{Tier}
use Rattle.d_tier.specs.Tables.{prices_of, price_at}

-- the price at a place is that of the tier there
pub price_at-tier : (ts : List Tier) (i : ℕ) (tier : Tier) → i < length ts → tier ≡ slice_index_or ts i tier
    → price_at ts i ≡ tier.price
price_at-tier ts i tier below there =
    get_or-map (λ (t : Tier). t.price) ts i tier (pos 0) below ∙ ap (λ (t : Tier). t.price) (sym there)

pub Contains-price : (ts : List Tier) (i : ℕ) (tier : Tier) → i < length ts → tier ≡ slice_index_or ts i tier
    → Contains (prices_of ts) tier.price
Contains-price ts i tier below there =
    let long : i < length (prices_of ts) = omega (arith, length-map ts (λ (t : Tier). t.price)) in
    (i, long, get_or_default (prices_of ts) i tier.price (pos 0) long ∙ price_at-tier ts i tier below there)

before_or_at : (k i : ℕ) → k < i + 1 → (k < i) ⊎ (k ≡ i)
before_or_at k i h = grind arith

-- what holds of the first prices and of the next
pub prices-more : (P : ℤ → Type 0) (ts : List Tier) (i : ℕ) (tier : Tier) → i < length ts → tier ≡ slice_index_or ts i tier
    → P tier.price → ((k : ℕ) → k < i → P (price_at ts k)) → (k : ℕ) → k < i + 1 → P (price_at ts k)
prices-more P ts i tier below there this before k h =
    elim (before_or_at k i h) [
      | inl less ↦ before k less
      | inr same ↦ subst (λ (j : ℕ). P (price_at ts j)) (sym same) (subst P (sym (price_at-tier ts i tier below there)) this)
    ]

-- what holds at each place holds of all
pub All-prices : (P : ℤ → Type 0) (ts : List Tier) (n : ℕ) → length ts ≤ n
    → ((k : ℕ) → k < n → P (price_at ts k)) → All P (prices_of ts)
All-prices P ts n whole each k d h =
    let below : k < n = omega (arith, length-map ts (λ (t : Tier). t.price)) in
    subst P (get_or_default (prices_of ts) k (pos 0) d h) (each k below)

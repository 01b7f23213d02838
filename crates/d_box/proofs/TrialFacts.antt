-- The least and greatest of some prices.
use Rattle.std.proofs.Common.{ℕ, suc, zero, ℤ, pos, ◌≤ℤ◌, ◌+ℤ◌, ◌-ℤ◌, ◌≡◌, ◌⊎◌, ◌<◌, ◌*◌, ◌^◌, List, [], ◌∷◌, length, slice_index_or, sym, subst, ap, inl, inr, arith, ◌∙◌}
use Rattle.std.specs.List.{Contains}
use Rattle.std.specs.Int.{int_max, int_min}
use Rattle.std.proofs.lemmas.Int.{ints, clamps, by_lt_z}
use Rattle.std.proofs.lemmas.List.{get_or_default, get_or-map, length-map}
use Rattle.d_tier.specs.declared.tier.Tier.{Tier}
use Rattle.d_tier.specs.Tables.{open_tier, prices_of, IsLowestPrice, IsHighestPrice}
use Rattle.d_num.specs.Amount.{IsWithin, IsRate}
use Rattle.d_box.specs.Trials.{HasEnergyPrices, least_of, greatest_of, spread_of, shifted, moved}

min_is : (x y : ℤ) → ((int_min x y ≡ x) × (x ≤ℤ y)) ⊎ ((int_min x y ≡ y) × (y ≤ℤ x))
min_is x y = by_lt_z x y (λ lt. inl (omega (arith, ints, clamps), omega (arith, ints))) (λ ge. inr (omega (arith, ints, clamps), ge))

max_is : (x y : ℤ) → ((int_max x y ≡ x) × (y ≤ℤ x)) ⊎ ((int_max x y ≡ y) × (x ≤ℤ y))
max_is x y = by_lt_z x y (λ lt. inr (omega (arith, ints, clamps), omega (arith, ints))) (λ ge. inl (omega (arith, ints, clamps), ge))

same_z : (x : ℤ) → x ≤ℤ x
same_z x = omega (arith, ints)

under : (a b c : ℤ) → a ≤ℤ b → b ≤ℤ c → a ≤ℤ c
under a b c x y = omega (arith, ints)

meet : (a b : ℤ) → a ≤ℤ b → b ≤ℤ a → a ≡ b
meet a b x y = omega (arith, ints)

-- the least is at most each
below_each : (xs : List ℤ) (k : ℕ) → k < length xs → least_of xs ≤ℤ slice_index_or xs k (pos 0)
unfolding least_of
below_each [] k lt = absurd (omega arith)
below_each (x ∷ []) zero lt = same_z x
below_each (x ∷ []) (suc k) lt = absurd (omega arith)
below_each (x ∷ y ∷ rest) zero lt = elim (min_is x (least_of (y ∷ rest))) [ inl h ↦ rw h.0 (same_z x) | inr h ↦ rw h.0 h.1 ]
below_each (x ∷ y ∷ rest) (suc k) lt =
    let h = below_each (y ∷ rest) k (omega arith) in
    elim (min_is x (least_of (y ∷ rest))) [ inl m ↦ rw m.0 (under _ _ _ m.1 h) | inr m ↦ rw m.0 h ]

-- and what is at most each is at most it
least_above : (xs : List ℤ) (z : ℤ) → 0 < length xs → ((k : ℕ) → k < length xs → z ≤ℤ slice_index_or xs k (pos 0)) → z ≤ℤ least_of xs
unfolding least_of
least_above [] z some all = absurd (omega arith)
least_above (x ∷ []) z some all = all zero (omega arith)
least_above (x ∷ y ∷ rest) z some all =
    let h = least_above (y ∷ rest) z (omega arith) (λ k lt. all (suc k) (omega arith)) in
    elim (min_is x (least_of (y ∷ rest))) [ inl m ↦ rw m.0 (all zero (omega arith)) | inr m ↦ rw m.0 h ]

above_each : (xs : List ℤ) (k : ℕ) → k < length xs → slice_index_or xs k (pos 0) ≤ℤ greatest_of xs
unfolding greatest_of
above_each [] k lt = absurd (omega arith)
above_each (x ∷ []) zero lt = same_z x
above_each (x ∷ []) (suc k) lt = absurd (omega arith)
above_each (x ∷ y ∷ rest) zero lt = elim (max_is x (greatest_of (y ∷ rest))) [ inl h ↦ rw h.0 (same_z x) | inr h ↦ rw h.0 h.1 ]
above_each (x ∷ y ∷ rest) (suc k) lt =
    let h = above_each (y ∷ rest) k (omega arith) in
    elim (max_is x (greatest_of (y ∷ rest))) [ inl m ↦ rw m.0 (under _ _ _ h m.1) | inr m ↦ rw m.0 h ]

greatest_below : (xs : List ℤ) (z : ℤ) → 0 < length xs → ((k : ℕ) → k < length xs → slice_index_or xs k (pos 0) ≤ℤ z) → greatest_of xs ≤ℤ z
unfolding greatest_of
greatest_below [] z some all = absurd (omega arith)
greatest_below (x ∷ []) z some all = all zero (omega arith)
greatest_below (x ∷ y ∷ rest) z some all =
    let h = greatest_below (y ∷ rest) z (omega arith) (λ k lt. all (suc k) (omega arith)) in
    elim (max_is x (greatest_of (y ∷ rest))) [ inl m ↦ rw m.0 (all zero (omega arith)) | inr m ↦ rw m.0 h ]

pub lowest_is : (tiers : List Tier) (price : ℤ) → IsLowestPrice tiers price → price ≡ least_of (prices_of tiers)
lowest_is tiers price h = meet _ _
    (least_above (prices_of tiers) price (let lt = h.one.1 in omega arith) (λ k lt. h.lowest k (pos 0) lt))
    (subst (λ z. least_of (prices_of tiers) ≤ℤ z) (get_or_default (prices_of tiers) h.one.0 (pos 0) price h.one.1 ∙ h.one.2) (below_each (prices_of tiers) h.one.0 h.one.1))

pub highest_is : (tiers : List Tier) (price : ℤ) → IsHighestPrice tiers price → price ≡ greatest_of (prices_of tiers)
highest_is tiers price h = meet _ _
    (subst (λ z. z ≤ℤ greatest_of (prices_of tiers)) (get_or_default (prices_of tiers) h.one.0 (pos 0) price h.one.1 ∙ h.one.2) (above_each (prices_of tiers) h.one.0 h.one.1))
    (greatest_below (prices_of tiers) price (let lt = h.one.1 in omega arith) (λ k lt. h.highest k (pos 0) lt))

-- a price of the table is within its limit
pub price_within : (tiers : List Tier) (price : ℤ) → HasEnergyPrices tiers → Contains (prices_of tiers) price → IsWithin (3 * 10 ^ 21) price
price_within tiers price all one =
    let lt : one.0 < length tiers = subst (λ n. one.0 < n) (length-map tiers (λ (tier : Tier). tier.price)) one.1 in
    let here : slice_index_or (prices_of tiers) one.0 price ≡ (slice_index_or tiers one.0 (open_tier price)).price =
    get_or-map (λ (tier : Tier). tier.price) tiers one.0 (open_tier price) price lt in
    subst (IsWithin (3 * 10 ^ 21)) (sym here ∙ one.2) (all one.0 (open_tier price) lt)

-- the bounds of a slope are rates, the lower one first
pub record AreBounds (lowest highest : ℤ) : Type 0 where
  pub spread : IsRate (highest -ℤ lowest)
  pub least : IsRate (lowest -ℤ (highest -ℤ lowest))
  pub greatest : IsRate (highest +ℤ (highest -ℤ lowest))
  pub order : (lowest -ℤ (highest -ℤ lowest)) ≤ℤ (highest +ℤ (highest -ℤ lowest))

bounds_of : (lowest highest : ℤ) → IsWithin (3 * 10 ^ 21) lowest → IsWithin (3 * 10 ^ 21) highest → lowest ≤ℤ highest → AreBounds lowest highest
bounds_of lowest highest l h le =
    let a = l.0 in
    let b = l.1 in
    let c = h.0 in
    let d = h.1 in
    record {
      spread = (omega (arith, ints), omega (arith, ints));
      least = (omega (arith, ints), omega (arith, ints));
      greatest = (omega (arith, ints), omega (arith, ints));
      order = omega (arith, ints);
    }

pub bounds : (tiers : List Tier) (lowest highest : ℤ) → HasEnergyPrices tiers → IsLowestPrice tiers lowest → IsHighestPrice tiers highest → AreBounds lowest highest
bounds tiers lowest highest prices low high =
    bounds_of lowest highest (price_within tiers lowest prices low.one) (price_within tiers highest prices high.one)
    (subst (λ z. lowest ≤ℤ z) high.one.2 (low.lowest high.one.0 highest high.one.1))

-- what a moved slope is, by the prices that were found
pub moved_is : (tiers : List Tier) (lowest highest spread least greatest target slope result : ℤ) (step : ℕ) → IsLowestPrice tiers lowest
    → IsHighestPrice tiers highest → spread ≡ highest -ℤ lowest → least ≡ lowest -ℤ spread → greatest ≡ highest +ℤ spread
    → target ≡ shifted spread slope step → result ≡ int_max least (int_min target greatest) → result ≡ moved tiers slope step
moved_is tiers lowest highest spread least greatest target slope result step low high apart below above at is =
    let l = lowest_is tiers lowest low in
    let h = highest_is tiers highest high in
    let s : spread ≡ spread_of tiers = omega (arith, ints) in
    let b : least ≡ least_of (prices_of tiers) -ℤ spread_of tiers = omega (arith, ints) in
    let a : greatest ≡ greatest_of (prices_of tiers) +ℤ spread_of tiers = omega (arith, ints) in
    is ∙ (ap (λ z. int_max z (int_min target greatest)) b
    ∙ (ap (λ z. int_max (least_of (prices_of tiers) -ℤ spread_of tiers) (int_min target z)) a
    ∙ ap (λ z. int_max (least_of (prices_of tiers) -ℤ spread_of tiers) (int_min z (greatest_of (prices_of tiers) +ℤ spread_of tiers))) (at ∙ ap (λ z. shifted z slope step) s)))

-- the bounds in the order that was found
pub in_order : (lowest highest spread least greatest : ℤ) → AreBounds lowest highest → spread ≡ highest -ℤ lowest → least ≡ lowest -ℤ spread
    → greatest ≡ highest +ℤ spread → least ≤ℤ greatest
in_order lowest highest spread least greatest b apart below above = let o = b.order in omega (arith, ints)

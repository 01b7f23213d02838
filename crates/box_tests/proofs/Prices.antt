-- Prices between the lowest and the highest of a table.
use Rattle.std.proofs.Common.{ℕ, ℤ, pos, ◌≤ℤ◌, ◌*◌, ◌^◌, ◌<◌, ◌≡◌, List, length, slice_index_or, sym, subst, arith}
use Rattle.std.proofs.lemmas.Int.{ints}
use Rattle.std.proofs.lemmas.List.{get_or-map, length-map}
use Rattle.d_num.specs.Amount.{IsWithin}
use Rattle.d_tier.specs.declared.tier.Tier.{Tier}
use Rattle.d_tier.specs.Tables.{prices_of, IsLowestPrice, IsHighestPrice}
use Rattle.d_box.specs.Trials.{HasEnergyPrices}

between : (limit : ℕ) (low high price : ℤ) → IsWithin limit low → IsWithin limit high → low ≤ℤ price → price ≤ℤ high → IsWithin limit price
between limit low high price l h a b = let c = l.0 in let d = h.1 in (omega (arith, ints), omega (arith, ints))

pub all_within : (tiers : List Tier) (low high : ℤ) → IsLowestPrice tiers low → IsHighestPrice tiers high → IsWithin (3 * 10 ^ 21) low
    → IsWithin (3 * 10 ^ 21) high → HasEnergyPrices tiers
all_within tiers low high lowest highest l h k d lt =
    let here : slice_index_or (prices_of tiers) k (pos 0) ≡ (slice_index_or tiers k d).price = get_or-map (λ (tier : Tier). tier.price) tiers k d (pos 0) lt in
    let long : k < length (prices_of tiers) = subst (λ n. k < n) (sym (length-map tiers (λ (tier : Tier). tier.price))) lt in
    subst (IsWithin (3 * 10 ^ 21)) here (between (3 * 10 ^ 21) low high _ l h (lowest.lowest k (pos 0) long) (highest.highest k (pos 0) long))

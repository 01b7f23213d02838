-- A table with one more tier is a table.
use Rattle.std.proofs.Common.{◌≡◌, ℤ, pos, ◌+◌, ◌≤◌, ◌<◌, ◌<ℤ◌, ◌≢◌, List, [], ◌∷◌, length, Some, false, arith, refl, sym, ◌∙◌, inl, inr}
use Rattle.std.proofs.lemmas.Bool.{cases_Bool, true≢false}
use Rattle.std.proofs.lemmas.Bool.Decides.{Decides-int_eq}
use Rattle.std.specs.Ordering.{int_eq}
use Rattle.d_tier.specs.declared.tier.Tier.{Tier}
use Rattle.d_tier.specs.Tables.{IsTierEnd, IsFollowed, AreTiersFrom, IsTierTable, last_end_from, last_end, with_tier}

-- prices that a test tells apart
apart : (a b : ℤ) → int_eq a b ≡ false → a ≢ b
apart a b differ same = true≢false (sym ((Decides-int_eq a b).1 same) ∙ differ)

-- it is whole, from where the first tier begins
whole_with : (start end price : ℤ) (tiers : List Tier) → AreTiersFrom start tiers → last_end_from start tiers <ℤ end → IsTierEnd end
    → AreTiersFrom start (with_tier end price tiers)
whole_with start end price [] whole above range = absurd whole
whole_with start end price (tier ∷ []) whole above range = elim (cases_Bool (int_eq tier.price price)) [
  | inl same ↦ rw same whole
  | inr other ↦
      let over : start <ℤ end = rw whole at above in
      rw other (end, record { there = refl; above = over; range = range; apart = apart tier.price price other }, refl)
]
whole_with start end price (tier ∷ last ∷ []) whole above range =
    let over : whole.0 <ℤ end = rw (whole.2, whole.1.there) at above in
    elim (cases_Bool (int_eq last.price price)) [
      | inl same ↦ rw same whole
      | inr other ↦
          let follows : IsFollowed start whole.0 tier (record last { end = Some end }) =
          record { there = whole.1.there; above = whole.1.above; range = whole.1.range; apart = whole.1.apart } in
          rw other (whole.0, follows, (end, record { there = refl; above = over; range = range; apart = apart last.price price other }, refl))
    ]
whole_with start end price (tier ∷ next ∷ more ∷ rest) whole above range =
    let over : last_end_from whole.0 (next ∷ more ∷ rest) <ℤ end = rw whole.1.there at above in
    (whole.0, whole.1, whole_with whole.0 end price (next ∷ more ∷ rest) whole.2 over range)

-- it has at most one more tier
pub count_with : (end price : ℤ) (tiers : List Tier) → length (with_tier end price tiers) ≤ length tiers + 1
count_with end price [] = omega arith
count_with end price (tier ∷ []) = elim (cases_Bool (int_eq tier.price price)) [ inl same ↦ rw same (omega arith) | inr other ↦ rw other (omega arith) ]
count_with end price (tier ∷ next ∷ rest) = let more = count_with end price (next ∷ rest) in omega (arith, more)

-- a tier that begins above where the last one does can be added while there is room
pub table_with : (end price : ℤ) (tiers : List Tier) → IsTierTable tiers → length tiers < 16 → last_end tiers <ℤ end → IsTierEnd end
    → IsTierTable (with_tier end price tiers)
table_with end price tiers table room above range = record {
  few = let count = count_with end price tiers in omega (arith, count, room);
  whole = whole_with (pos 0) end price tiers table.whole above range;
}

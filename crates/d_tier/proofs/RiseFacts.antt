-- A higher demand is never charged less.
use Rattle.std.proofs.Common.{◌≡◌, ◌+◌, suc, ℤ, pos, ◌+ℤ◌, ◌-ℤ◌, ◌*ℤ◌, ◌≤ℤ◌, ◌<ℤ◌, List, [], ◌∷◌, All, arith}
use Rattle.std.specs.Int.{int_min, int_max}
use Rattle.std.proofs.lemmas.Int.{ints, clamps}
use Rattle.d_num.proofs.Times.{product_low, times_difference}
use Rattle.d_tier.specs.declared.tier.Tier.{Tier}
use Rattle.d_tier.specs.Tables.{AreTiersFrom}
use Rattle.d_tier.specs.Charges.{charge_from}
use Rattle.d_tier.specs.Rising.{ChargesRise}

-- a price from 0 up times more is no less
price_rises : (price a b : ℤ) → pos 0 ≤ℤ price → a ≤ℤ b → (price *ℤ a) ≤ℤ (price *ℤ b)
price_rises price a b low order =
    let more = product_low price (b -ℤ a) low (omega (arith, ints)) in
    let split = times_difference price b a in
    linear (price *ℤ a) (price *ℤ b) (price *ℤ (b -ℤ a)) more split
  where
    linear : (pa pb pd : ℤ) → pos 0 ≤ℤ pd → pd ≡ pb -ℤ pa → pa ≤ℤ pb
    linear pa pb pd h e = omega (arith, ints)

-- the part in the last tier
part_open : (begin x y : ℤ) → x ≤ℤ y → (x -ℤ int_min x begin) ≤ℤ (y -ℤ int_min y begin)
part_open begin x y order = omega (arith, ints, clamps)

-- the part in another tier
part_closed : (begin end x y : ℤ) → begin <ℤ end → x ≤ℤ y → (int_min x end -ℤ int_min x begin) ≤ℤ (int_min y end -ℤ int_min y begin)
part_closed begin end x y above order = omega (arith, ints, clamps)

both_rise : (a b c d : ℤ) → a ≤ℤ b → c ≤ℤ d → (a +ℤ c) ≤ℤ (b +ℤ d)
both_rise a b c d h k = omega (arith, ints)

charge_rises : (begin : ℤ) (ts : List Tier) (x y : ℤ) → AreTiersFrom begin ts → All (λ (t : Tier). pos 0 ≤ℤ t.price) ts → x ≤ℤ y → charge_from begin ts x ≤ℤ charge_from begin ts y
charge_rises begin [] x y h fair order = absurd h
charge_rises begin (t ∷ []) x y h fair order =
    rw h (both_rise (t.price *ℤ (x -ℤ int_min x begin)) (t.price *ℤ (y -ℤ int_min y begin)) (pos 0) (pos 0)
    (price_rises t.price (x -ℤ int_min x begin) (y -ℤ int_min y begin) (fair 0 t (omega arith)) (part_open begin x y order)) (omega (arith, ints)))
charge_rises begin (t ∷ u ∷ ts) x y h fair order =
    rw h.1.there (both_rise (t.price *ℤ (int_min x h.0 -ℤ int_min x begin)) (t.price *ℤ (int_min y h.0 -ℤ int_min y begin)) (charge_from h.0 (u ∷ ts) x) (charge_from h.0 (u ∷ ts) y)
    (price_rises t.price (int_min x h.0 -ℤ int_min x begin) (int_min y h.0 -ℤ int_min y begin) (fair 0 t (omega arith)) (part_closed begin h.0 x y h.1.above order))
    (charge_rises h.0 (u ∷ ts) x y h.2 (λ k d below. fair (suc k) d (omega arith)) order))

-- the demand or the floor, whichever is greater
floored : (x y floor : ℤ) → x ≤ℤ y → int_max x floor ≤ℤ int_max y floor
floored x y floor order = omega (arith, ints, clamps)

pub rising : ChargesRise
rising peak x y table fair order = charge_rises (pos 0) peak.tiers (int_max x peak.floor) (int_max y peak.floor) table.whole fair (floored x y peak.floor order)

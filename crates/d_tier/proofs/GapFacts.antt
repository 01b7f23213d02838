-- Where the least gap of a range lies: at one of its ends, or at a tier's end.
use Rattle.std.proofs.Common.{◌≡◌, ◌⊎◌, inl, inr, ℕ, zero, suc, ℤ, pos, ◌+◌, ◌*◌, ◌<◌, ◌≤◌, ◌+ℤ◌, ◌-ℤ◌, ◌*ℤ◌, ◌≤ℤ◌, ◌<ℤ◌, List, [], ◌∷◌, length, slice_index_or, Option, Some, None, IfSome, All, arith, refl, sym, ap, subst, ◌∙◌, unsigned_abs}
use Rattle.std.specs.Int.{int_min}
use Rattle.std.proofs.lemmas.Int.{ints, clamps, by_lt_z}
use Rattle.std.proofs.Math.Nat.{add-mul}
use Rattle.d_num.specs.Amount.{IsWithin, IsUpTo}
use Rattle.d_num.proofs.Products.{product_within}
use Rattle.d_num.proofs.Times.{times_sum, difference_times, product_low}
use Rattle.d_tier.specs.declared.tier.Tier.{Tier}
use Rattle.d_tier.specs.Tables.{AreTiersFrom, end_at}
use Rattle.d_tier.specs.Charges.{part_end, charge_from, tier_charge}
use Rattle.d_tier.specs.Gaps.{gap_at, least_from, least_gap}
use Rattle.d_tier.specs.Steps.{IsInnerGap}
use Rattle.d_tier.proofs.ChargeFacts.{charge_held, charge_within}
use Rattle.d_tier.proofs.LeastFacts.{least_low, least_reached, distance, least_of}

-- on a stretch of one price: at y the gap is this
abbrev pub on_line : ℤ → ℤ → ℤ → ℤ → ℤ → ℤ
on_line c price begin slope y = (c +ℤ price *ℤ (y -ℤ begin)) -ℤ slope *ℤ y

-- how it changes from a to x
line_step : (c price begin slope a x : ℤ) → on_line c price begin slope x ≡ on_line c price begin slope a +ℤ (price -ℤ slope) *ℤ (x -ℤ a)
line_step c price begin slope a x =
    let split : x -ℤ begin ≡ (a -ℤ begin) +ℤ (x -ℤ a) = omega (arith, ints) in
    let one : price *ℤ (x -ℤ begin) ≡ price *ℤ (a -ℤ begin) +ℤ price *ℤ (x -ℤ a) = ap (λ (z : ℤ). price *ℤ z) split ∙ times_sum price (a -ℤ begin) (x -ℤ a) in
    let parts : x ≡ a +ℤ (x -ℤ a) = omega (arith, ints) in
    let two : slope *ℤ x ≡ slope *ℤ a +ℤ slope *ℤ (x -ℤ a) = ap (λ (z : ℤ). slope *ℤ z) parts ∙ times_sum slope a (x -ℤ a) in
    linear c (price *ℤ (x -ℤ begin)) (price *ℤ (a -ℤ begin)) (price *ℤ (x -ℤ a)) (slope *ℤ x) (slope *ℤ a) (slope *ℤ (x -ℤ a)) ((price -ℤ slope) *ℤ (x -ℤ a)) one two (difference_times price slope (x -ℤ a))
  where
    linear : (c px pa pd sx sa sd kd : ℤ) → px ≡ pa +ℤ pd → sx ≡ sa +ℤ sd → kd ≡ pd -ℤ sd → (c +ℤ px) -ℤ sx ≡ ((c +ℤ pa) -ℤ sa) +ℤ kd
    linear c px pa pd sx sa sd kd e f g = omega (arith, ints)

-- what is no more than the gap at both ends of a stretch is no more than the gap in between
pub line_between : (m c price begin slope a b x : ℤ) → m ≤ℤ on_line c price begin slope a → m ≤ℤ on_line c price begin slope b → a ≤ℤ x → x ≤ℤ b → m ≤ℤ on_line c price begin slope x
line_between m c price begin slope a b x at_a at_b from below =
    by_lt_z {P = m ≤ℤ on_line c price begin slope x} price slope falls rises
  where
    rises : slope ≤ℤ price → m ≤ℤ on_line c price begin slope x
    rises steep =
        let up = product_low (price -ℤ slope) (x -ℤ a) (omega (arith, ints)) (omega (arith, ints)) in
        let step = line_step c price begin slope a x in
        linear (on_line c price begin slope x) (on_line c price begin slope a) ((price -ℤ slope) *ℤ (x -ℤ a)) step up at_a
      where
        linear : (gx ga kd : ℤ) → gx ≡ ga +ℤ kd → pos 0 ≤ℤ kd → m ≤ℤ ga → m ≤ℤ gx
        linear gx ga kd e f g = omega (arith, ints)

    falls : price <ℤ slope → m ≤ℤ on_line c price begin slope x
    falls steep =
        let up = product_low (slope -ℤ price) (b -ℤ x) (omega (arith, ints)) (omega (arith, ints)) in
        let step = line_step c price begin slope x b in
        linear (on_line c price begin slope x) (on_line c price begin slope b) ((price -ℤ slope) *ℤ (b -ℤ x)) ((slope -ℤ price) *ℤ (b -ℤ x)) (price *ℤ (b -ℤ x)) (slope *ℤ (b -ℤ x)) step up
        (difference_times price slope (b -ℤ x)) (difference_times slope price (b -ℤ x)) at_b
      where
        linear : (gx gb kd nd p s : ℤ) → gb ≡ gx +ℤ kd → pos 0 ≤ℤ nd → kd ≡ p -ℤ s → nd ≡ s -ℤ p → m ≤ℤ gb → m ≤ℤ gx
        linear gx gb kd nd p s e f g h k = omega (arith, ints)

at_or_below : (x y : ℤ) → (x ≤ℤ y) ⊎ (y <ℤ x)
at_or_below x y = by_lt_z {P = (x ≤ℤ y) ⊎ (y <ℤ x)} y x (λ more. inr more) (λ less. inl less)

-- a gap that is known from `begin` on, where the tiers from there are these
abbrev pub IsGapFrom : (ℤ → ℤ) → ℤ → ℤ → List Tier → ℤ → Type 0
IsGapFrom g c begin ts slope = (y : ℤ) → begin ≤ℤ y → g y ≡ (c +ℤ charge_from begin ts y) -ℤ slope *ℤ y

-- what is no more than the gap at a range's ends and at each tier's end inside it
pub record IsBelowEnds (m : ℤ) (g : ℤ → ℤ) (ts : List Tier) (low high : ℤ) : Type 0 where
  pub at_low : m ≤ℤ g low
  pub at_high : m ≤ℤ g high
  pub at_ends : (k : ℕ) (end : ℤ) → end_at ts k ≡ Some end → low <ℤ end → end <ℤ high → m ≤ℤ g end

-- on the first tier
in_first : (m : ℤ) (g : ℤ → ℤ) (c begin slope : ℤ) (t : Tier) (ts : List Tier) (a b x : ℤ) → IsGapFrom g c begin (t ∷ ts) slope → AreTiersFrom begin (t ∷ ts)
    → ((y : ℤ) → y ≤ℤ b → part_end t.end y ≡ y) → begin ≤ℤ a → a ≤ℤ x → x ≤ℤ b → m ≤ℤ g a → m ≤ℤ g b → m ≤ℤ g x
in_first m g c begin slope t ts a b x is tiers held from low high at_a at_b =
    let line = λ (y : ℤ) (after : begin ≤ℤ y) (before : y ≤ℤ b). is y after ∙ ap (λ (z : ℤ). (c +ℤ z) -ℤ slope *ℤ y) (charge_held begin t ts y tiers after (held y before)) in
    subst (λ (z : ℤ). m ≤ℤ z) (sym (line x (omega (arith, ints)) high))
    (line_between m c t.price begin slope a b x
    (subst (λ (z : ℤ). m ≤ℤ z) (line a from (omega (arith, ints))) at_a)
    (subst (λ (z : ℤ). m ≤ℤ z) (line b (omega (arith, ints)) (omega (arith, ints))) at_b) low high)

-- an amount beyond the first tier
charge_next : (begin : ℤ) (t u : Tier) (ts : List Tier) (y : ℤ) (h : AreTiersFrom begin (t ∷ u ∷ ts)) → h.0 ≤ℤ y
    → charge_from begin (t ∷ u ∷ ts) y ≡ (t.price *ℤ (h.0 -ℤ begin)) +ℤ charge_from h.0 (u ∷ ts) y
charge_next begin t u ts y h after = rw h.1.there (ap (λ (part : ℤ). (t.price *ℤ part) +ℤ charge_from h.0 (u ∷ ts) y) (whole begin h.0 y h.1.above after))
  where
    whole : (begin end y : ℤ) → begin <ℤ end → end ≤ℤ y → int_min y end -ℤ int_min y begin ≡ end -ℤ begin
    whole begin end y above after = omega (arith, ints, clamps)

-- the gap from the second tier on
gap_next : (g : ℤ → ℤ) (c begin slope : ℤ) (t u : Tier) (ts : List Tier) (h : AreTiersFrom begin (t ∷ u ∷ ts)) → IsGapFrom g c begin (t ∷ u ∷ ts) slope
    → IsGapFrom g (c +ℤ t.price *ℤ (h.0 -ℤ begin)) h.0 (u ∷ ts) slope
gap_next g c begin slope t u ts h is y after =
    let above = h.1.above in
    is y (omega (arith, ints)) ∙ ap (λ (z : ℤ). (c +ℤ z) -ℤ slope *ℤ y) (charge_next begin t u ts y h after)
    ∙ regroup c (t.price *ℤ (h.0 -ℤ begin)) (charge_from h.0 (u ∷ ts) y) (slope *ℤ y)
  where
    regroup : (a b d e : ℤ) → (a +ℤ (b +ℤ d)) -ℤ e ≡ ((a +ℤ b) +ℤ d) -ℤ e
    regroup a b d e = omega (arith, ints)

-- nor is it more than the gap anywhere in the range
pub below_all : (m : ℤ) (g : ℤ → ℤ) (slope : ℤ) (ts : List Tier) (c begin low high : ℤ) → IsGapFrom g c begin ts slope → AreTiersFrom begin ts → begin ≤ℤ low → IsBelowEnds m g ts low high
    → (x : ℤ) → low ≤ℤ x → x ≤ℤ high → m ≤ℤ g x
below_all m g slope [] c begin low high is tiers from ends x above below = absurd tiers
below_all m g slope (t ∷ []) c begin low high is tiers from ends x above below =
    in_first m g c begin slope t [] low high x is tiers (λ y _. rw tiers refl) from above below ends.at_low ends.at_high
below_all m g slope (t ∷ u ∷ ts) c begin low high is tiers from ends x above below =
    by_place (at_or_below high tiers.0) (at_or_below x tiers.0) (at_or_below tiers.0 low)
    (λ l after range over. below_all m g slope (u ∷ ts) (c +ℤ t.price *ℤ (tiers.0 -ℤ begin)) tiers.0 l high (gap_next g c begin slope t u ts tiers is) tiers.2 after range x over below)
  where
    held : (b : ℤ) → b ≤ℤ tiers.0 → (y : ℤ) → y ≤ℤ b → part_end t.end y ≡ y
    held b within y before = rw tiers.1.there (least y b tiers.0 within before)
      where
        least : (y b end : ℤ) → b ≤ℤ end → y ≤ℤ b → int_min y end ≡ y
        least y b end h k = omega (arith, ints, clamps)

    -- the first tier ends inside the range
    inner : low <ℤ tiers.0 → tiers.0 <ℤ high → m ≤ℤ g tiers.0
    inner h k = ends.at_ends 0 tiers.0 tiers.1.there h k

    later : (l : ℤ) → low ≤ℤ l → m ≤ℤ g l → IsBelowEnds m g (u ∷ ts) l high
    later l more at_l = record {
      at_low = at_l;
      at_high = ends.at_high;
      at_ends = λ k end there over under. ends.at_ends (suc k) end there (omega (arith, ints)) under;
    }

    by_place : (high ≤ℤ tiers.0) ⊎ (tiers.0 <ℤ high) → (x ≤ℤ tiers.0) ⊎ (tiers.0 <ℤ x) → (tiers.0 ≤ℤ low) ⊎ (low <ℤ tiers.0)
        → ((l : ℤ) → tiers.0 ≤ℤ l → IsBelowEnds m g (u ∷ ts) l high → l ≤ℤ x → m ≤ℤ g x) → m ≤ℤ g x
    by_place (inl near) p q rest = in_first m g c begin slope t (u ∷ ts) low high x is tiers (held high near) from above below ends.at_low ends.at_high
    by_place (inr far) (inl within) (inl past) rest = let e : low ≡ x = omega (arith, ints) in subst (λ (z : ℤ). m ≤ℤ g z) e ends.at_low
    by_place (inr far) (inl within) (inr inside) rest =
        in_first m g c begin slope t (u ∷ ts) low tiers.0 x is tiers (held tiers.0 (omega (arith, ints))) from above within ends.at_low (inner inside far)
    by_place (inr far) (inr over) (inl past) rest = rest low past (later low (omega (arith, ints)) ends.at_low) above
    by_place (inr far) (inr over) (inr inside) rest = rest tiers.0 (omega (arith, ints)) (later tiers.0 (omega (arith, ints)) (inner inside far)) (omega (arith, ints))

-- the least gap at a range's ends and at the ends of the first i tiers inside it
pub record IsLeastTo (ts : List Tier) (low high slope : ℤ) (i : ℕ) (least : ℤ) : Type 0 where
  pub amount : ℤ
  pub above : low ≤ℤ amount
  pub below : amount ≤ℤ high
  pub is : least ≡ gap_at ts slope amount
  pub at_low : least ≤ℤ gap_at ts slope low
  pub at_high : least ≤ℤ gap_at ts slope high
  pub at_ends : (k : ℕ) → k < i → (end : ℤ) → end_at ts k ≡ Some end → low <ℤ end → end <ℤ high → least ≤ℤ gap_at ts slope end

pub least_none : (ts : List Tier) (low high slope : ℤ) → low ≤ℤ high → IsLeastTo ts low high slope 0 (int_min (gap_at ts slope low) (gap_at ts slope high))
least_none ts low high slope order = by_value (one_of (gap_at ts slope low) (gap_at ts slope high))
  where
    one_of : (a b : ℤ) → (int_min a b ≡ a) ⊎ (int_min a b ≡ b)
    one_of a b = grind (arith, ints)

    first : (a b : ℤ) → int_min a b ≤ℤ a
    first a b = omega (arith, ints, clamps)

    second : (a b : ℤ) → int_min a b ≤ℤ b
    second a b = omega (arith, ints, clamps)

    of_amount : (x : ℤ) → low ≤ℤ x → x ≤ℤ high → int_min (gap_at ts slope low) (gap_at ts slope high) ≡ gap_at ts slope x → IsLeastTo ts low high slope 0 (int_min (gap_at ts slope low) (gap_at ts slope high))
    of_amount x above below e = record {
      amount = x;
      above = above;
      below = below;
      is = e;
      at_low = first (gap_at ts slope low) (gap_at ts slope high);
      at_high = second (gap_at ts slope low) (gap_at ts slope high);
      at_ends = λ k before. absurd (omega arith);
    }

    by_value : (int_min (gap_at ts slope low) (gap_at ts slope high) ≡ gap_at ts slope low) ⊎ (int_min (gap_at ts slope low) (gap_at ts slope high) ≡ gap_at ts slope high)
        → IsLeastTo ts low high slope 0 (int_min (gap_at ts slope low) (gap_at ts slope high))
    by_value (inl e) = of_amount low (omega (arith, ints)) order e
    by_value (inr e) = of_amount high order (omega (arith, ints)) e

-- the end at a place is the tier's
end_there : (ts : List Tier) (i : ℕ) (t : Tier) → i < length ts → t ≡ slice_index_or ts i t → end_at ts i ≡ t.end
end_there [] i t there is = absurd (omega arith)
end_there (u ∷ ts) zero t there is = ap (λ (v : Tier). v.end) (sym is)
end_there (u ∷ ts) (suc i) t there is = end_there ts i t (omega arith) is

-- one more tier
pub least_more : (ts : List Tier) (low high slope : ℤ) (i : ℕ) (least new : ℤ) (t : Tier) → IsLeastTo ts low high slope i least → i < length ts → t ≡ slice_index_or ts i t
    → new ≤ℤ least → (new ≡ least) ⊎ IsInnerGap ts low high slope new → IfSome t.end (λ e. low <ℤ e → e <ℤ high → new ≤ℤ gap_at ts slope e) → IsLeastTo ts low high slope (i + 1) new
least_more ts low high slope i least new t so_far there is less reached at_end = by_value reached
  where
    at_or_before : (k i : ℕ) → k < i + 1 → (k < i) ⊎ (k ≡ i)
    at_or_before k i h = grind arith

    at_ends : (k : ℕ) → (k < i) ⊎ (k ≡ i) → (end : ℤ) → end_at ts k ≡ Some end → low <ℤ end → end <ℤ high → new ≤ℤ gap_at ts slope end
    at_ends k (inl before) end e above below = let old = so_far.at_ends k before end e above below in omega (arith, ints)
    at_ends k (inr same) end e above below =
        let here : t.end ≡ Some end = sym (end_there ts i t there is) ∙ ap (end_at ts) (sym same) ∙ e in
        let known : IfSome (Some end) (λ z. low <ℤ z → z <ℤ high → new ≤ℤ gap_at ts slope z) = subst (λ (o : Option ℤ). IfSome o (λ z. low <ℤ z → z <ℤ high → new ≤ℤ gap_at ts slope z)) here at_end in
        known above below

    of_amount : (x : ℤ) → low ≤ℤ x → x ≤ℤ high → new ≡ gap_at ts slope x → IsLeastTo ts low high slope (i + 1) new
    of_amount x above below e = record {
      amount = x;
      above = above;
      below = below;
      is = e;
      at_low = let old = so_far.at_low in omega (arith, ints);
      at_high = let old = so_far.at_high in omega (arith, ints);
      at_ends = λ k before. at_ends k (at_or_before k i before);
    }

    by_value : (new ≡ least) ⊎ IsInnerGap ts low high slope new → IsLeastTo ts low high slope (i + 1) new
    by_value (inl same) = of_amount so_far.amount so_far.above so_far.below (same ∙ so_far.is)
    by_value (inr inner) = let over = inner.above in let under = inner.below in of_amount inner.amount (omega (arith, ints)) (omega (arith, ints)) inner.is

-- an end stands at a place of the list
end_within : (ts : List Tier) (k : ℕ) (end : ℤ) → end_at ts k ≡ Some end → k < length ts
end_within [] k end e = absurd (never end e)
  where
    never : (end : ℤ) → ◌≡◌ {A = Option ℤ} None (Some end) → ⊥
    never end e = cc
end_within (u ∷ ts) zero end e = omega arith
end_within (u ∷ ts) (suc k) end e = let rest = end_within ts k end e in omega arith

-- all tiers
pub least_all : (ts : List Tier) (low high slope : ℤ) (i : ℕ) (least : ℤ) → AreTiersFrom (pos 0) ts → pos 0 ≤ℤ low → low ≤ℤ high → length ts ≤ i → IsLeastTo ts low high slope i least
    → least ≡ least_gap ts low high slope
least_all ts low high slope i least tiers from order whole so_far =
    let g = gap_at ts slope in
    let n = unsigned_abs (high -ℤ low) in
    let ends : IsBelowEnds least g ts low high = record {
      at_low = so_far.at_low;
      at_high = so_far.at_high;
      at_ends = λ k end e. so_far.at_ends k (let inside = end_within ts k end e in omega arith) end e;
    } in
    let all = below_all least g slope ts (pos 0) (pos 0) low high (λ y _. begins (charge_from (pos 0) ts y) (slope *ℤ y)) tiers from ends in
    let reached = least_reached low n g in
    let k = unsigned_abs (so_far.amount -ℤ low) in
    let above = so_far.above in
    let below = so_far.below in
    let place : low +ℤ pos k ≡ so_far.amount = distance low so_far.amount above in
    let few : k ≤ n = closer low so_far.amount high above below in
    let lower : least_from low n g ≤ℤ g so_far.amount = subst (λ (z : ℤ). least_from low n g ≤ℤ g z) place (least_low low n g k few) in
    let higher : least ≤ℤ g (low +ℤ pos reached.0) = all (low +ℤ pos reached.0) (omega (arith, ints)) (inside low high reached.0 order reached.1.0) in
    antisym least (least_from low n g) (g so_far.amount) (g (low +ℤ pos reached.0)) so_far.is lower reached.1.1 higher
  where
    begins : (a b : ℤ) → a -ℤ b ≡ (pos 0 +ℤ a) -ℤ b
    begins a b = omega (arith, ints)

    closer : (low x high : ℤ) → low ≤ℤ x → x ≤ℤ high → unsigned_abs (x -ℤ low) ≤ unsigned_abs (high -ℤ low)
    closer low x high above below =
        let near = distance low x above in
        let far = distance low high (omega (arith, ints)) in
        omega (arith, ints)

    inside : (low high : ℤ) (k : ℕ) → low ≤ℤ high → k ≤ unsigned_abs (high -ℤ low) → (low +ℤ pos k) ≤ℤ high
    inside low high k order few = let far = distance low high order in omega (arith, ints)

    antisym : (a b x y : ℤ) → a ≡ x → b ≤ℤ x → b ≡ y → a ≤ℤ y → a ≡ b
    antisym a b x y e f g h = omega (arith, ints)

-- the size of the least gap
pub least_gap_within : (m k n : ℕ) (ts : List Tier) (low high slope : ℤ) → AreTiersFrom (pos 0) ts → All (λ (t : Tier). IsWithin m t.price) ts → IsWithin k slope
    → pos 0 ≤ℤ low → low ≤ℤ high → IsUpTo n high → IsWithin ((m + k) * n) (least_gap ts low high slope)
least_gap_within m k n ts low high slope tiers fair flat from order range =
    let least = least_of (gap_at ts slope) low high order in
    let x = least.amount in
    let above = least.above in
    let below = least.below in
    let near : IsUpTo n x = (omega (arith, ints), let most = range.1 in omega (arith, ints)) in
    let charge = charge_within m n ts x tiers fair near in
    let price = product_within k n slope x flat (let low = near.0 in omega (arith, ints), near.1) in
    subst (IsWithin ((m + k) * n)) (sym least.reached) (difference m k n (tier_charge ts x) (slope *ℤ x) charge price)
  where
    difference : (m k n : ℕ) (a b : ℤ) → IsWithin (m * n) a → IsWithin (k * n) b → IsWithin ((m + k) * n) (a -ℤ b)
    difference m k n a b h j = rw (add-mul m k n) (omega (arith, ints, h.0, j.1), omega (arith, ints, h.1, j.0))

-- What tiers charge: below their first begin nothing, and tier by tier.
use Rattle.std.proofs.Common.{◌≡◌, ◌⊎◌, inl, inr, ℕ, suc, ℤ, pos, neg_ℤ, negsuc, to_z, of_z, w64, ◌+◌, ◌*◌, ◌^◌, ◌<◌, ◌≤◌, ◌+ℤ◌, ◌-ℤ◌, ◌*ℤ◌, ◌≤ℤ◌, ◌<ℤ◌, List, [], ◌∷◌, length, drop, slice_index_or, All, arith, refl, sym, ap, subst, ◌∙◌}
use Rattle.std.specs.Int.{int_min}
use Rattle.std.proofs.lemmas.Int.{ints, clamps}
use Rattle.std.proofs.lemmas.List.{drop_more, drop_all}
use Rattle.d_num.specs.Amount.{IsWithin, IsUpTo}
use Rattle.d_num.proofs.Products.{product_within}
use Rattle.d_num.proofs.Times.{times_sum, times_zero}
use Rattle.d_tier.specs.declared.tier.Tier.{Tier}
use Rattle.d_tier.specs.Tables.{AreTiersFrom}
use Rattle.d_tier.specs.Charges.{part_end, charge_from, tier_charge}

none_of : (begin : ℤ) (end : ℤ) (x : ℤ) → x ≤ℤ begin → begin <ℤ end → int_min x end -ℤ int_min x begin ≡ pos 0
none_of begin end x below above = omega (arith, ints, clamps)

none_open : (begin : ℤ) (x : ℤ) → x ≤ℤ begin → x -ℤ int_min x begin ≡ pos 0
none_open begin x below = omega (arith, ints, clamps)

nothing : (price part rest : ℤ) → part ≡ pos 0 → rest ≡ pos 0 → price *ℤ part +ℤ rest ≡ pos 0
nothing price part rest e f = let z : price *ℤ part ≡ pos 0 = ap (λ (p : ℤ). price *ℤ p) e ∙ times_zero price in omega (arith, ints)

-- what lies below the first tier isn't charged
pub charge_below : (begin : ℤ) (ts : List Tier) (x : ℤ) → AreTiersFrom begin ts → x ≤ℤ begin → charge_from begin ts x ≡ pos 0
charge_below begin [] x h below = refl
charge_below begin (t ∷ []) x h below = rw h (nothing t.price (x -ℤ int_min x begin) (pos 0) (none_open begin x below) refl)
charge_below begin (t ∷ u ∷ ts) x h below =
    let later : x ≤ℤ h.0 = let above = h.1.above in omega (arith, ints) in
    rw h.1.there (nothing t.price (int_min x h.0 -ℤ int_min x begin) (charge_from h.0 (u ∷ ts) x) (none_of begin h.0 x below h.1.above) (charge_below h.0 (u ∷ ts) x h.2 later))

one_part : (price part given rest whole : ℤ) → part ≡ given → rest ≡ pos 0 → whole ≡ price *ℤ part +ℤ rest → whole ≡ price *ℤ given
one_part price part given rest whole e f g = let p : price *ℤ part ≡ price *ℤ given = ap (λ (z : ℤ). price *ℤ z) e in omega (arith, ints)

-- an amount that the first tier holds has its price
pub charge_held : (begin : ℤ) (t : Tier) (ts : List Tier) (x : ℤ) → AreTiersFrom begin (t ∷ ts) → begin ≤ℤ x → part_end t.end x ≡ x
    → charge_from begin (t ∷ ts) x ≡ t.price *ℤ (x -ℤ begin)
charge_held begin t [] x h from held =
    rw h (one_part t.price (x -ℤ int_min x begin) (x -ℤ begin) (pos 0) _ (whole begin x from) refl refl)
  where
    whole : (begin x : ℤ) → begin ≤ℤ x → x -ℤ int_min x begin ≡ x -ℤ begin
    whole begin x from = omega (arith, ints, clamps)
charge_held begin t (u ∷ ts) x h from held =
    let near : int_min x h.0 ≡ x = rw h.1.there at held in
    rw h.1.there (one_part t.price (int_min x h.0 -ℤ int_min x begin) (x -ℤ begin) (charge_from h.0 (u ∷ ts) x) _
    (whole begin h.0 x from near) (charge_below h.0 (u ∷ ts) x h.2 (within h.0 x near)) refl)
  where
    whole : (begin end x : ℤ) → begin ≤ℤ x → int_min x end ≡ x → int_min x end -ℤ int_min x begin ≡ x -ℤ begin
    whole begin end x from e = omega (arith, ints, clamps)

    within : (end x : ℤ) → int_min x end ≡ x → x ≤ℤ end
    within end x e = omega (arith, ints, clamps)

-- an amount reaches beyond the first tier: its full part is charged, and the rest by the tiers behind it
pub record IsPassed (begin : ℤ) (t : Tier) (ts : List Tier) (x : ℤ) : Type 0 where
  pub tiers : AreTiersFrom (part_end t.end x) ts
  pub above : begin <ℤ part_end t.end x
  pub below : part_end t.end x <ℤ x
  pub charges : (y : ℤ) → part_end t.end x ≤ℤ y → charge_from begin (t ∷ ts) y ≡ (t.price *ℤ (part_end t.end x -ℤ begin)) +ℤ charge_from (part_end t.end x) ts y

pub charge_passed : (begin : ℤ) (t : Tier) (ts : List Tier) (x : ℤ) → AreTiersFrom begin (t ∷ ts) → begin ≤ℤ x → (part_end t.end x ≡ x → ⊥) → IsPassed begin t ts x
charge_passed begin t [] x h from more = absurd (more (rw h refl))
charge_passed begin t (u ∷ ts) x h from more =
    let over : int_min x h.0 ≡ x → ⊥ = rw h.1.there at more in
    let least : int_min x h.0 ≡ h.0 = ends h.0 x over in
    let is : part_end t.end x ≡ h.0 = rw h.1.there least in
    record {
      tiers = subst (λ (z : ℤ). AreTiersFrom z (u ∷ ts)) (sym is) h.2;
      above = subst (λ (z : ℤ). begin <ℤ z) (sym is) h.1.above;
      below = subst (λ (z : ℤ). z <ℤ x) (sym is) (before h.0 x over);
      charges = subst (λ (z : ℤ). (y : ℤ) → z ≤ℤ y → charge_from begin (t ∷ u ∷ ts) y ≡ (t.price *ℤ (z -ℤ begin)) +ℤ charge_from z (u ∷ ts) y) (sym is)
          (λ y after. rw h.1.there (ap (λ (part : ℤ). (t.price *ℤ part) +ℤ charge_from h.0 (u ∷ ts) y) (whole begin h.0 y h.1.above after)));
    }
  where
    ends : (end x : ℤ) → (int_min x end ≡ x → ⊥) → int_min x end ≡ end
    ends end x over = grind (arith, ints)

    before : (end x : ℤ) → (int_min x end ≡ x → ⊥) → end <ℤ x
    before end x over = grind (arith, ints)

    whole : (begin end y : ℤ) → begin <ℤ end → end ≤ℤ y → int_min y end -ℤ int_min y begin ≡ end -ℤ begin
    whole begin end y above after = omega (arith, ints, clamps)

-- a price of at most this size for an amount from 0 up
pub price_within : (m : ℕ) (price x : ℤ) → IsWithin m price → pos 0 ≤ℤ x → (neg_ℤ (pos m *ℤ x) ≤ℤ (price *ℤ x)) × ((price *ℤ x) ≤ℤ (pos m *ℤ x))
price_within m price (pos n) h low =
    let p : IsWithin (m * n) (price *ℤ pos n) = product_within m n price (pos n) h (omega (arith, ints), omega (arith, ints)) in
    (p.0, p.1)
price_within m price (negsuc n) h low = absurd (omega (arith, ints))

-- how far a charge has come before tier i, where the first `begin` of the amount are charged
pub record IsChargedTo (ts : List Tier) (x : ℤ) (i : ℕ) (begin charge : ℤ) : Type 0 where
  pub tiers : AreTiersFrom begin (drop i ts)
  pub low : pos 0 ≤ℤ begin
  pub high : begin ≤ℤ x
  pub small : (neg_ℤ (pos (10 ^ 22) *ℤ begin) ≤ℤ charge) × (charge ≤ℤ (pos (10 ^ 22) *ℤ begin))
  pub rest : (y : ℤ) → begin ≤ℤ y → tier_charge ts y ≡ charge +ℤ charge_from begin (drop i ts) y

pub charged_none : (ts : List Tier) (x : ℤ) → AreTiersFrom (pos 0) ts → pos 0 ≤ℤ x → IsChargedTo ts x 0 (pos 0) (pos 0)
charged_none ts x h from = record {
  tiers = h;
  low = omega (arith, ints);
  high = from;
  small = (omega (arith, ints), omega (arith, ints));
  rest = λ y after. none (tier_charge ts y);
}
  where
    none : (z : ℤ) → z ≡ pos 0 +ℤ z
    none z = omega (arith, ints)

-- what is charged with one more part is in range
pub charge_small : (m : ℕ) (begin end charge price : ℤ) → (neg_ℤ (pos m *ℤ begin) ≤ℤ charge) × (charge ≤ℤ (pos m *ℤ begin)) → IsWithin m price → begin ≤ℤ end →
    (neg_ℤ (pos m *ℤ end) ≤ℤ (charge +ℤ price *ℤ (end -ℤ begin))) × ((charge +ℤ price *ℤ (end -ℤ begin)) ≤ℤ (pos m *ℤ end))
charge_small m begin end charge price small fair order =
    let part = price_within m price (end -ℤ begin) fair (omega (arith, ints)) in
    let split : end ≡ begin +ℤ (end -ℤ begin) = omega (arith, ints) in
    let whole : pos m *ℤ end ≡ pos m *ℤ begin +ℤ pos m *ℤ (end -ℤ begin) = ap (λ (z : ℤ). pos m *ℤ z) split ∙ times_sum (pos m) begin (end -ℤ begin) in
    linear (pos m *ℤ end) (pos m *ℤ begin) (pos m *ℤ (end -ℤ begin)) charge (price *ℤ (end -ℤ begin)) small part whole
  where
    linear : (whole before more charge part : ℤ) → (neg_ℤ before ≤ℤ charge) × (charge ≤ℤ before) → (neg_ℤ more ≤ℤ part) × (part ≤ℤ more) → whole ≡ before +ℤ more →
        (neg_ℤ whole ≤ℤ (charge +ℤ part)) × ((charge +ℤ part) ≤ℤ whole)
    linear whole before more charge part a b e = (omega (arith, ints, a.0, b.0), omega (arith, ints, a.1, b.1))

-- a part ends between its begin and the amount
pub part_between : (begin : ℤ) (t : Tier) (ts : List Tier) (x : ℤ) → AreTiersFrom begin (t ∷ ts) → begin ≤ℤ x → (begin ≤ℤ part_end t.end x) × (part_end t.end x ≤ℤ x)
part_between begin t [] x h from = rw h (from, omega (arith, ints))
part_between begin t (u ∷ ts) x h from = rw h.1.there (let above = h.1.above in (omega (arith, ints, clamps), omega (arith, ints, clamps)))

-- one more tier that is passed
pub charged_more : (ts : List Tier) (x : ℤ) (i : ℕ) (begin charge : ℤ) (t : Tier) → IsChargedTo ts x i begin charge → i < length ts → t ≡ slice_index_or ts i t → IsWithin (10 ^ 22) t.price
    → (part_end t.end x ≡ x → ⊥) → IsChargedTo ts x (i + 1) (part_end t.end x) (charge +ℤ t.price *ℤ (part_end t.end x -ℤ begin))
charged_more ts x i begin charge t so_far there is fair more =
    let first : drop i ts ≡ t ∷ drop (i + 1) ts = drop_more ts i t there ∙ ap (λ (u : Tier). u ∷ drop (i + 1) ts) (sym is) in
    let tiers : AreTiersFrom begin (t ∷ drop (i + 1) ts) = subst (λ (l : List Tier). AreTiersFrom begin l) first so_far.tiers in
    let passed = charge_passed begin t (drop (i + 1) ts) x tiers so_far.high more in
    let end = part_end t.end x in
    let above = passed.above in
    record {
      tiers = passed.tiers;
      low = let low = so_far.low in omega (arith, ints);
      high = let below = passed.below in omega (arith, ints);
      small = charge_small (10 ^ 22) begin end charge t.price so_far.small fair (omega (arith, ints));
      rest = λ y after. so_far.rest y (omega (arith, ints)) ∙ ap (λ (l : List Tier). charge +ℤ charge_from begin l y) first
          ∙ ap (λ (z : ℤ). charge +ℤ z) (passed.charges y after) ∙ regroup charge (t.price *ℤ (end -ℤ begin)) (charge_from end (drop (i + 1) ts) y);
    }
  where
    regroup : (a b c : ℤ) → a +ℤ (b +ℤ c) ≡ (a +ℤ b) +ℤ c
    regroup a b c = omega (arith, ints)

-- the tier that holds the amount ends the charge
pub charged_whole : (ts : List Tier) (x : ℤ) (i : ℕ) (begin charge : ℤ) (t : Tier) → IsChargedTo ts x i begin charge → i < length ts → t ≡ slice_index_or ts i t
    → part_end t.end x ≡ x → charge +ℤ t.price *ℤ (part_end t.end x -ℤ begin) ≡ tier_charge ts x
charged_whole ts x i begin charge t so_far there is held =
    let first : drop i ts ≡ t ∷ drop (i + 1) ts = drop_more ts i t there ∙ ap (λ (u : Tier). u ∷ drop (i + 1) ts) (sym is) in
    let tiers : AreTiersFrom begin (t ∷ drop (i + 1) ts) = subst (λ (l : List Tier). AreTiersFrom begin l) first so_far.tiers in
    ap (λ (z : ℤ). charge +ℤ t.price *ℤ (z -ℤ begin)) held
    ∙ ap (λ (z : ℤ). charge +ℤ z) (sym (charge_held begin t (drop (i + 1) ts) x tiers so_far.high held))
    ∙ ap (λ (l : List Tier). charge +ℤ charge_from begin l x) (sym first)
    ∙ sym (so_far.rest x so_far.high)

-- some tier holds the amount
pub never_over : (ts : List Tier) (x : ℤ) (i : ℕ) (begin charge : ℤ) → IsChargedTo ts x i begin charge → length ts ≤ i → ⊥
never_over ts x i begin charge so_far over = subst (λ (l : List Tier). AreTiersFrom begin l) (drop_all i ts over) so_far.tiers

-- the part of the next tier
pub charged_part : (ts : List Tier) (x : ℤ) (i : ℕ) (begin charge : ℤ) (t : Tier) → IsChargedTo ts x i begin charge → i < length ts → t ≡ slice_index_or ts i t
    → (begin ≤ℤ part_end t.end x) × (part_end t.end x ≤ℤ x)
charged_part ts x i begin charge t so_far there is =
    let first : drop i ts ≡ t ∷ drop (i + 1) ts = drop_more ts i t there ∙ ap (λ (u : Tier). u ∷ drop (i + 1) ts) (sym is) in
    let tiers : AreTiersFrom begin (t ∷ drop (i + 1) ts) = subst (λ (l : List Tier). AreTiersFrom begin l) first so_far.tiers in
    part_between begin t (drop (i + 1) ts) x tiers so_far.high

-- with it the charge stays in range
pub charged_within : (x begin end charge price : ℤ) → IsUpTo (2 * 10 ^ 13) x → (neg_ℤ (pos (10 ^ 22) *ℤ begin) ≤ℤ charge) × (charge ≤ℤ (pos (10 ^ 22) *ℤ begin)) → IsWithin (10 ^ 22) price
    → pos 0 ≤ℤ begin → begin ≤ℤ end → end ≤ℤ x → IsWithin (2 * 10 ^ 35) (charge +ℤ price *ℤ (end -ℤ begin))
charged_within x begin (pos n) charge price range small fair low from below =
    let both = charge_small (10 ^ 22) begin (pos n) charge price small fair from in
    let few : n ≤ 2 * 10 ^ 13 = omega (arith, ints, range.1, below) in
    let high : (pos (10 ^ 22) *ℤ pos n) ≤ℤ pos (2 * 10 ^ 35) = omega (arith, ints) in
    (omega (arith, ints, both.0, high), omega (arith, ints, both.1, high))
charged_within x begin (negsuc n) charge price range small fair low from below = absurd (omega (arith, ints))

-- and is an amount of money
pub charged_money : (z : ℤ) → IsWithin (2 * 10 ^ 35) z → IsWithin (10 ^ 37) z
charged_money z h = (omega (arith, ints, h.0), omega (arith, ints, h.1))

-- the part from `begin` to `end`, as the processor's 64-bit words hold it
pub record IsNextPart (x begin end : ℤ) : Type 0 where
  pub range : IsUpTo (2 * 10 ^ 13) x
  pub low : pos 0 ≤ℤ begin
  pub from : begin ≤ℤ end
  pub below : end ≤ℤ x
  pub end_is : to_z w64 (of_z w64 end) ≡ end
  pub part_is : to_z w64 (of_z w64 (to_z w64 (of_z w64 end) -ℤ begin)) ≡ end -ℤ begin

pub next_part : (x begin end : ℤ) → IsUpTo (2 * 10 ^ 13) x → pos 0 ≤ℤ begin → begin ≤ℤ end → end ≤ℤ x → IsNextPart x begin end
next_part x begin end range low from below = record {
  range = range;
  low = low;
  from = from;
  below = below;
  end_is = omega (arith, ints, range.1);
  part_is = omega (arith, ints, range.1);
}

same_or_not : (a b : ℤ) → (a ≡ b) ⊎ (a ≡ b → ⊥)
same_or_not a b = grind (arith, ints)

-- where all prices are at most this size, what lies above `begin` is charged at most at that price
charge_bound : (m : ℕ) (ts : List Tier) (begin x : ℤ) → AreTiersFrom begin ts → All (λ (t : Tier). IsWithin m t.price) ts → begin ≤ℤ x
    → (neg_ℤ (pos m *ℤ (x -ℤ begin)) ≤ℤ charge_from begin ts x) × (charge_from begin ts x ≤ℤ (pos m *ℤ (x -ℤ begin)))
charge_bound m [] begin x h fair from = absurd h
charge_bound m (t ∷ ts) begin x h fair from =
    by_end (same_or_not (part_end t.end x) x) (λ end tiers near. charge_bound m ts end x tiers (λ k d below. fair (suc k) d (omega arith)) near)
  where
    price : IsWithin m t.price
    price = fair 0 t (omega arith)

    goal : ℤ → Type 0
    goal charge = (neg_ℤ (pos m *ℤ (x -ℤ begin)) ≤ℤ charge) × (charge ≤ℤ (pos m *ℤ (x -ℤ begin)))

    linear : (whole here after part rest : ℤ) → (neg_ℤ here ≤ℤ part) × (part ≤ℤ here) → (neg_ℤ after ≤ℤ rest) × (rest ≤ℤ after) → whole ≡ here +ℤ after
        → (neg_ℤ whole ≤ℤ (part +ℤ rest)) × ((part +ℤ rest) ≤ℤ whole)
    linear whole here after part rest a b e = (omega (arith, ints, a.0, b.0), omega (arith, ints, a.1, b.1))

    by_end : (part_end t.end x ≡ x) ⊎ (part_end t.end x ≡ x → ⊥)
        → ((end : ℤ) → AreTiersFrom end ts → end ≤ℤ x → (neg_ℤ (pos m *ℤ (x -ℤ end)) ≤ℤ charge_from end ts x) × (charge_from end ts x ≤ℤ (pos m *ℤ (x -ℤ end))))
        → (neg_ℤ (pos m *ℤ (x -ℤ begin)) ≤ℤ charge_from begin (t ∷ ts) x) × (charge_from begin (t ∷ ts) x ≤ℤ (pos m *ℤ (x -ℤ begin)))
    by_end (inl held) rest = rw (charge_held begin t ts x h from held) (price_within m t.price (x -ℤ begin) price (omega (arith, ints)))
    by_end (inr more) rest =
        let passed = charge_passed begin t ts x h from more in
        let end = part_end t.end x in
        let above = passed.above in
        let below = passed.below in
        let near : end ≤ℤ x = omega (arith, ints) in
        let split : x -ℤ begin ≡ (end -ℤ begin) +ℤ (x -ℤ end) = omega (arith, ints) in
        let whole : pos m *ℤ (x -ℤ begin) ≡ pos m *ℤ (end -ℤ begin) +ℤ pos m *ℤ (x -ℤ end) = ap (λ (z : ℤ). pos m *ℤ z) split ∙ times_sum (pos m) (end -ℤ begin) (x -ℤ end) in
        rw (passed.charges x near)
        (linear (pos m *ℤ (x -ℤ begin)) (pos m *ℤ (end -ℤ begin)) (pos m *ℤ (x -ℤ end)) (t.price *ℤ (end -ℤ begin)) (charge_from end ts x)
        (price_within m t.price (end -ℤ begin) price (omega (arith, ints))) (rest end passed.tiers near) whole)

times_order : (m k n : ℕ) → k ≤ n → m * k ≤ m * n
times_order m k n h = grind arith

-- the size of a charge
pub charge_within : (m n : ℕ) (ts : List Tier) (x : ℤ) → AreTiersFrom (pos 0) ts → All (λ (t : Tier). IsWithin m t.price) ts → IsUpTo n x → IsWithin (m * n) (tier_charge ts x)
charge_within m n ts x h fair range = by_sign x range (charge_bound m ts (pos 0) x h fair range.0)
  where
    by_sign : (x : ℤ) → IsUpTo n x → (neg_ℤ (pos m *ℤ (x -ℤ pos 0)) ≤ℤ tier_charge ts x) × (tier_charge ts x ≤ℤ (pos m *ℤ (x -ℤ pos 0))) → IsWithin (m * n) (tier_charge ts x)
    by_sign (pos k) range both =
        let few : k ≤ n = omega (arith, ints, range.1) in
        let product = times_order m k n few in
        (omega (arith, ints, both.0), omega (arith, ints, both.1))
    by_sign (negsuc k) range both = absurd (omega (arith, ints, range.0))

-- What the loop over groups finds.
use Rattle.std.proofs.Common.{ℕ, ℤ, pos, ◌≤ℤ◌, ◌<ℤ◌, ◌≡◌, ◌<◌, ◌+◌, List, Option, Some, None, length, slice_index_or, sym, subst, ap, inl, inr, arith, ◌∙◌}
use Rattle.std.proofs.lemmas.Bool.{cases_eq}
use Rattle.std.proofs.lemmas.Int.{ints}
use Rattle.d_box.specs.declared.space.Space.{Space}
use Rattle.std.proofs.Common.{is_gt, int_cmp, true, false}
use Rattle.d_tier.specs.declared.peak.Peak.{Peak as Group}
use Rattle.std.proofs.lemmas.List.{get_or_default}
use Rattle.d_box.specs.Boxes.{range_at}
use Rattle.d_box.specs.Splits.{peak_gap, no_peak, gap_at}
use Rattle.d_box.specs.Steps.{IsWidestTo}

-- what holds of the first n numbers and of n
pub gap_more : (P : ℕ → Type 0) (n : ℕ) → ((k : ℕ) → k < n → P k) → P n → (k : ℕ) → k < n + 1 → P k
gap_more P n before here k lt = elim (cases_eq k n) [ inl e ↦ subst P (sym e) here | inr ne ↦ before k (omega arith) ]

-- the next group's difference isn't greater
pub widest_same : (space : Space) (groups : List Group) (n : ℕ) (found : Option ℕ) (greatest : ℤ) → IsWidestTo space groups n found greatest → gap_at space groups n ≤ℤ greatest → IsWidestTo space groups (n + 1) found greatest
widest_same space groups n None greatest w le = (w.0, gap_more (λ k. gap_at space groups k ≤ℤ pos 0) n w.1 (subst (λ z. gap_at space groups n ≤ℤ z) w.0 le))
widest_same space groups n (Some g) greatest w le = (
  w.0,
  record {
    inside = (let i = w.1.inside in omega arith);
    some = w.1.some;
    greatest = gap_more (λ k. gap_at space groups k ≤ℤ gap_at space groups g) n w.1.greatest (subst (λ z. gap_at space groups n ≤ℤ z) w.0 le);
    first = w.1.first;
  },
)

below_greatest : (space : Space) (groups : List Group) (n : ℕ) (found : Option ℕ) (greatest : ℤ) → IsWidestTo space groups n found greatest → (pos 0 ≤ℤ greatest) × ((k : ℕ) → k < n → gap_at space groups k ≤ℤ greatest)
below_greatest space groups n None greatest w = (subst (λ z. pos 0 ≤ℤ z) (sym w.0) (omega (arith, ints)), λ k lt. subst (λ z. gap_at space groups k ≤ℤ z) (sym w.0) (w.1 k lt))
below_greatest space groups n (Some g) greatest w = (subst (λ z. pos 0 ≤ℤ z) (sym w.0) (let s = w.1.some in omega (arith, ints)), λ k lt. subst (λ z. gap_at space groups k ≤ℤ z) (sym w.0) (w.1.greatest k lt))

-- the next group's difference is greater
pub widest_more : (space : Space) (groups : List Group) (n : ℕ) (found : Option ℕ) (greatest gap : ℤ) → IsWidestTo space groups n found greatest → gap ≡ gap_at space groups n → greatest <ℤ gap → IsWidestTo space groups (n + 1) (Some n) gap
widest_more space groups n found greatest gap w is lt =
    let b = below_greatest space groups n found greatest w in
    let over : greatest <ℤ gap_at space groups n = subst (λ z. greatest <ℤ z) is lt in (
      is,
      record {
        inside = omega arith;
        some = (let p = b.0 in omega (arith, ints));
        greatest = gap_more (λ k. gap_at space groups k ≤ℤ gap_at space groups n) n (λ k h. let q = b.1 k h in omega (arith, ints)) (omega (arith, ints));
        first = λ k h. let q = b.1 k h in omega (arith, ints);
      },
    )

pub gt_from : (x y : ℤ) → is_gt (int_cmp x y) ≡ true → y <ℤ x
gt_from x y e = grind (arith, ints)

pub not_gt : (x y : ℤ) → is_gt (int_cmp x y) ≡ false → x ≤ℤ y
not_gt x y e = grind (arith, ints)

-- the difference of the group at this place
pub gap_here : (space : Space) (groups : List Group) (n : ℕ) (peak : Group) (z : ℤ) → n < length groups → peak ≡ slice_index_or groups n peak
    → z ≡ peak_gap peak (range_at space.peaks n) → z ≡ gap_at space groups n
gap_here space groups n peak z lt is e = e ∙ ap (λ p. peak_gap p (range_at space.peaks n)) (is ∙ get_or_default groups n peak no_peak lt)

-- Both halves of a peak's split together have as many choices of candidates as their box.
use Rattle.std.proofs.Common.{ℕ, suc, zero, ℤ, true, false, cond, ◌≤ℤ◌, ◌<ℤ◌, ◌≡◌, ◌⊎◌, ◌<◌, ◌≤◌, ◌+◌, ◌*◌, max, ◌&&◌, int_le, List, [], ◌∷◌, length, slice_set, ap, refl, inl, inr, arith, ◌∙◌}
use Rattle.std.specs.List.{Contains}
use Rattle.std.proofs.Math.Nat.{mul-add, add-mul}
use Rattle.std.proofs.lemmas.Int.{ints}
use Rattle.d_box.specs.declared.space.Range.{Range}
use Rattle.d_box.specs.Boxes.{range_at, IsPeakCut}
use Rattle.d_box.specs.Candidates.{list_at, is_in, in_range}
use Rattle.d_box.specs.Halves.{weight, combinations, AreShared}
use Rattle.d_box.proofs.ListFacts.{is_counted, in_test}

tail : (x : ℤ) (xs : List ℤ) (c : ℤ) → Contains xs c → Contains (x ∷ xs) c
tail x xs c h = (suc h.0, omega (arith, h.1), h.2)

-- a range and the parts that a cut leaves of it
abbrev left_part : Range → ℤ → Range
left_part range at = record { low = range.low; high = at }

abbrev right_part : Range → ℤ → Range
right_part range above = record { low = above; high = range.high }

-- a number at most where the left part ends is in both the range and its left part or in neither, and never in the right part
in_left : (low high at above c : ℤ) → low ≤ℤ at → at <ℤ above → above ≤ℤ high → c ≤ℤ at
    → ((int_le low c && int_le c high) ≡ (int_le low c && int_le c at)) × ((int_le above c && int_le c high) ≡ false)
in_left low high at above c a b d le = (grind (arith, ints), grind (arith, ints))

in_right : (low high at above c : ℤ) → low ≤ℤ at → at <ℤ above → above ≤ℤ high → above ≤ℤ c
    → ((int_le low c && int_le c high) ≡ (int_le above c && int_le c high)) × ((int_le low c && int_le c at) ≡ false)
in_right low high at above c a b d ge = (grind (arith, ints), grind (arith, ints))

pub parts_have : (range : Range) (at above : ℤ) → range.low ≤ℤ at → at <ℤ above → above ≤ℤ range.high → (xs : List ℤ)
    → ((c : ℤ) → Contains xs c → (c ≤ℤ at) ⊎ (above ≤ℤ c))
    → length (in_range range xs) ≡ length (in_range (left_part range at) xs) + length (in_range (right_part range above) xs)
parts_have range at above a b d [] next = refl
parts_have range at above a b d (x ∷ xs) next =
    let h = parts_have range at above a b d xs (λ c m. next c (tail x xs c m)) in
    elim (next x (zero, omega arith, refl)) [
      | inl le ↦ (let e = in_left range.low range.high at above x a b d le in rw (e.0, e.1)
          (elim (is_in (left_part range at) x) as (λ t. length (cond t (x ∷ in_range range xs) (in_range range xs))
          ≡ length (cond t (x ∷ in_range (left_part range at) xs) (in_range (left_part range at) xs)) + length (in_range (right_part range above) xs)) [ true ↦ omega arith | false ↦ h ]))
      | inr ge ↦ (let e = in_right range.low range.high at above x a b d ge in rw (e.0, e.1)
          (elim (is_in (right_part range above) x) as (λ t. length (cond t (x ∷ in_range range xs) (in_range range xs))
          ≡ length (in_range (left_part range at) xs) + length (cond t (x ∷ in_range (right_part range above) xs) (in_range (right_part range above) xs))) [ true ↦ omega arith | false ↦ h ]))
    ]

weights : (whole left right : ℕ) → 1 ≤ left → 1 ≤ right → whole ≡ left + right → max 1 whole ≡ max 1 left + max 1 right
weights whole left right a b e = omega arith

same_z : (x : ℤ) → x ≤ℤ x
same_z x = omega (arith, ints)

pub weight_shared : (list : List ℤ) (range : Range) (at above : ℤ) → IsPeakCut list range at above
    → weight list range ≡ weight list (left_part range at) + weight list (right_part range above)
weight_shared list range at above cut =
    weights _ _ _
    (is_counted list (left_part range at) at cut.there (in_test (left_part range at) at cut.low (same_z at)))
    (is_counted list (right_part range above) above cut.there_above (in_test (right_part range above) above (same_z above) cut.high))
    (parts_have range at above cut.low cut.apart cut.high list cut.next)

pub product_shared : (lists : List (List ℤ)) (ranges : List Range) (k : ℕ) (left right : Range) → k < length lists → k < length ranges
    → weight (list_at lists k) (range_at ranges k) ≡ weight (list_at lists k) left + weight (list_at lists k) right
    → combinations lists ranges ≡ combinations lists (slice_set ranges k left) + combinations lists (slice_set ranges k right)
unfolding combinations
product_shared [] ranges k left right a b e = absurd (omega arith)
product_shared (list ∷ lists) [] k left right a b e = absurd (omega arith)
product_shared (list ∷ lists) (range ∷ ranges) zero left right a b e = ap (λ n. n * combinations lists ranges) e ∙ add-mul _ _ _
product_shared (list ∷ lists) (range ∷ ranges) (suc k) left right a b e =
    ap (λ n. weight list range * n) (product_shared lists ranges k left right (omega arith) (omega arith) e) ∙ mul-add _ _ _

pub shared : AreShared
shared candidates space group at cut =
    product_shared candidates space.peaks group _ _ cut.1 cut.0 (weight_shared (list_at candidates group) (range_at space.peaks group) at _ cut.2)

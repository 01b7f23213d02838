-- Sums of costs, and what they stand for.
use Rattle.std.proofs.Common.{◌≡◌, ◌⊎◌, ◌*◌, ◌^◌, ◌≤ℤ◌, ◌<ℤ◌, ◌+ℤ◌, ◌+◌, ◌<◌, slice_index_or, slice_set, replicate, take, ◌++◌, [], ◌∷◌, ◌≤◌, ℤ, pos, neg_ℤ, ℕ, List, length, map, Bool, true, false, int_le, inl, inr, ap, sym, subst, ◌∙◌, refl, arith}
use Rattle.std.specs.Int.{int_min}
use Rattle.std.proofs.lemmas.Int.{ints}
use Rattle.std.proofs.lemmas.List.{get_or-map, length-map, map-set, get_or-replicate, length-replicate, take_more, take_more_set}
use Rattle.std.proofs.lemmas.List.Elements.{All-set, All-replicate}
use Rattle.d_num.specs.Amount.{IsWithin}
use Rattle.d_num.specs.declared.pot.Pot.{Pot}
use Rattle.d_num.specs.declared.pot.Pot.TheVariants.{To, NoWay}
use Rattle.d_num.specs.Pot.{AtMost, joined, IsPotWithin}
use Rattle.d_rows.specs.Packed.{shown, shown_by, IsPacked, IsPackedBy}
use Rattle.d_path.specs.declared.ways.Move.{Move}
use Rattle.d_path.specs.Arcs.{Arcs, intervals_of}
use Rattle.d_path.specs.Cheapest.{HasCheapest}
use Rattle.d_path.specs.Best.{IsLesser, IsLeastOf, IsSpan, IsLowered, AreCostsAt, cost_by}
use Rattle.d_path.specs.Sums.{AreSums}
use Rattle.d_path.proofs.StepLemmas.{least_none}
use Rattle.d_path.proofs.LowerLemmas.{IsLoweredBefore, AreLeastOf, lowered_none, lowered_more, lowered_all, least_lowered, least_skipped, least_all}

-- a number up to 10^37 is a cost, and each one above it is no way
shown_cost : (z : ℤ) → z ≤ℤ pos (10 ^ 37) → shown z ≡ To z
shown_cost z h = let e : int_le z (pos (10 ^ 37)) ≡ true = grind (arith, ints) in ap (λ (b : Bool). shown_by b z) e

shown_none : (z : ℤ) → pos (10 ^ 37) <ℤ z → shown z ≡ NoWay
shown_none z h = let e : int_le z (pos (10 ^ 37)) ≡ false = grind (arith, ints) in ap (λ (b : Bool). shown_by b z) e

ordered : (x y : ℤ) → (x ≤ℤ y) ⊎ (y <ℤ x)
ordered x y = grind (arith, ints)

-- the greater number stands for no less
shown_ordered : (x y : ℤ) → x ≤ℤ y → AtMost (shown x) (shown y)
shown_ordered x y le = elim (ordered y (pos (10 ^ 37))) [
  | inl cost ↦
      let first : shown x ≡ To x = shown_cost x (grind (arith, ints)) in
      rw (first, shown_cost y cost) le
  | inr past ↦ rw (shown_none y past) (below (shown x))
]
  where
    below : (p : Pot) → AtMost p NoWay
    below (To x) = tt
    below NoWay = tt

-- the lesser number stands for the lesser cost
pub shown_least : (x y : ℤ) → IsLesser (shown x) (shown y) (shown (int_min x y))
shown_least x y = elim (ordered x y) [
  | inl le ↦
      let is : int_min x y ≡ x = grind (arith, ints) in
      subst (λ (z : ℤ). IsLesser (shown x) (shown y) (shown z)) (sym is)
      (record { one_of_both = inl refl; below_first = shown_ordered x x (grind (arith, ints)); below_second = shown_ordered x y le })
  | inr lt ↦
      let is : int_min x y ≡ y = grind (arith, ints) in
      subst (λ (z : ℤ). IsLesser (shown x) (shown y) (shown z)) (sym is)
      (record { one_of_both = inr refl; below_first = shown_ordered y x (grind (arith, ints)); below_second = shown_ordered y y (grind (arith, ints)) })
]

-- what is kept is a cost in range, or the number of no way
pub kept_cases : (z : ℤ) → IsPacked z → ((shown z ≡ To z) × IsWithin (10 ^ 37) z) ⊎ ((shown z ≡ NoWay) × (pos (8 * 10 ^ 37) ≡ z))
kept_cases z h = go (int_le z (pos (10 ^ 37))) h
  where
    go : (b : Bool) → IsPackedBy b z → ((shown_by b z ≡ To z) × IsWithin (10 ^ 37) z) ⊎ ((shown_by b z ≡ NoWay) × (pos (8 * 10 ^ 37) ≡ z))
    go true h = inl (refl, h)
    go false h = inr (refl, h)

-- a cost and what is kept of another, where that is small, is far from both ends of 128 bits
pub sum_room : (z cost : ℤ) (p : Pot) → IsPacked z → shown z ≡ p → IsPotWithin (10 ^ 36) p → IsWithin (10 ^ 32) cost → (neg_ℤ (pos (10 ^ 37)) ≤ℤ (z +ℤ cost)) × ((z +ℤ cost) ≤ℤ pos (9 * 10 ^ 37))
sum_room z cost p packed is within small = elim (kept_cases z packed) [
  | inl one ↦
      let range : IsWithin (10 ^ 36) z = subst (λ (q : Pot). IsPotWithin (10 ^ 36) q) (sym is ∙ one.0) within in
      (omega (arith, ints, range.0, range.1, small.0, small.1), omega (arith, ints, range.0, range.1, small.0, small.1))
  | inr none ↦ (omega (arith, ints, none.1, small.0, small.1), omega (arith, ints, none.1, small.0, small.1))
]

-- the sum stands for the joined cost
pub sum_shown : (z cost : ℤ) (p : Pot) → IsPacked z → shown z ≡ p → IsPotWithin (10 ^ 36) p → IsWithin (10 ^ 32) cost → shown (z +ℤ cost) ≡ joined (To cost) p
sum_shown z cost p packed is within small = elim (kept_cases z packed) [
  | inl one ↦
      let range : IsWithin (10 ^ 36) z = subst (λ (q : Pot). IsPotWithin (10 ^ 36) q) (sym is ∙ one.0) within in
      let turned : z +ℤ cost ≡ cost +ℤ z = omega (arith, ints) in
      shown_cost (z +ℤ cost) (omega (arith, ints, range.0, range.1, small.0, small.1)) ∙ ap To turned ∙ ap (joined (To cost)) (sym one.0 ∙ is)
  | inr none ↦ shown_none (z +ℤ cost) (omega (arith, ints, none.1, small.0, small.1)) ∙ ap (joined (To cost)) (sym none.0 ∙ is)
]

-- the sums before this column are lowered, and the others are as they were
pub record AreLoweredBefore (a : Arcs) (move : Move) (cost : ℤ) (next : List Pot) (old new : List ℤ) (end : ℕ) : Type 0 where
  pub sums : AreSums new
  pub lowered : IsLoweredBefore a move (To cost) next (map shown old) (map shown new) end

-- each sum is the least over the first k moves
pub record AreLeastSums (a : Arcs) (costs next : List Pot) (row : List ℤ) (k : ℕ) : Type 0 where
  pub sums : AreSums row
  pub least : AreLeastOf a costs next (map shown row) k

-- what the code writes there
pub sums_more : (a : Arcs) (move : Move) (cost : ℤ) (next : List Pot) (old new : List ℤ) (from to count i : ℕ) (z value : ℤ) → IsSpan a move from to count → AreLoweredBefore a move cost next old new (from + i) → i < count → from + i < length old → to + i < length next
    → IsPacked z → shown z ≡ slice_index_or next (to + i) NoWay → IsPotWithin (10 ^ 36) (slice_index_or next (to + i) NoWay) → IsWithin (10 ^ 32) cost → value ≡ int_min (slice_index_or new (from + i) (pos 0)) (z +ℤ cost)
    → AreLoweredBefore a move cost next old (slice_set new (from + i) value) (from + (i + 1))
sums_more a move cost next old new from to count i z value span before lt inside beyond packed is within small least =
    let p : Pot = slice_index_or next (to + i) NoWay in
    let sum : ℤ = slice_index_or new (from + i) (pos 0) in
    let old_long : length (map shown old) ≡ length old = simp length-map in
    let new_long : length (map shown new) ≡ length new = simp length-map in
    let long = before.lowered.long in
    let here : from + i < length new = omega arith in
    let shows : slice_index_or (map shown new) (from + i) NoWay ≡ shown sum = get_or-map shown new (from + i) (pos 0) NoWay here in
    let lesser : IsLesser (slice_index_or (map shown new) (from + i) NoWay) (joined (To cost) p) (shown value) =
    subst (λ (v : ℤ). IsLesser (slice_index_or (map shown new) (from + i) NoWay) (joined (To cost) p) (shown v)) (sym least)
    (subst (λ (q : Pot). IsLesser q (joined (To cost) p) (shown (int_min sum (z +ℤ cost)))) (sym shows)
    (subst (λ (q : Pot). IsLesser (shown sum) q (shown (int_min sum (z +ℤ cost)))) (sum_shown z cost p packed is within small) (shown_least sum (z +ℤ cost)))) in
    let low : neg_ℤ (pos (10 ^ 37)) ≤ℤ sum = before.sums (from + i) (pos 0) here in
    let least_low : neg_ℤ (pos (10 ^ 37)) ≤ℤ value = subst (λ (v : ℤ). neg_ℤ (pos (10 ^ 37)) ≤ℤ v) (sym least) (least_in sum (z +ℤ cost) low (sum_room z cost p packed is within small).0) in
    record {
      sums = All-set (λ (v : ℤ). neg_ℤ (pos (10 ^ 37)) ≤ℤ v) new (from + i) value least_low before.sums;
      lowered =
          subst (λ (l : List Pot). IsLoweredBefore a move (To cost) next (map shown old) l (from + (i + 1))) (sym (map-set shown new (from + i) value))
          (lowered_more a move (To cost) next (map shown old) (map shown new) from to count i (shown value) span before.lowered lt (omega arith) lesser);
    }
  where
    least_in : (x y : ℤ) → neg_ℤ (pos (10 ^ 37)) ≤ℤ x → neg_ℤ (pos (10 ^ 37)) ≤ℤ y → neg_ℤ (pos (10 ^ 37)) ≤ℤ int_min x y
    least_in x y one other = grind (arith, ints)

-- nothing is lowered at first
pub sums_none : (a : Arcs) (move : Move) (cost : ℤ) (next : List Pot) (sums : List ℤ) (from to count : ℕ) → IsSpan a move from to count → AreSums sums → AreLoweredBefore a move cost next sums sums (from + 0)
sums_none a move cost next sums from to count span are = record { sums = are; lowered = lowered_none a move (To cost) next (map shown sums) from to count span }

-- at the end of the span all are
pub sums_all : (a : Arcs) (move : Move) (cost : ℤ) (next : List Pot) (old new : List ℤ) (from to count i : ℕ) → IsSpan a move from to count → a.floor + length old ≡ a.capacity + 1 → count ≤ i → AreLoweredBefore a move cost next old new (from + i)
    → IsLowered a move (To cost) next (map shown old) (map shown new)
sums_all a move cost next old new from to count i span wide done before =
    let long : length (map shown old) ≡ length old = simp length-map in
    lowered_all a move (To cost) next (map shown old) (map shown new) from to count i span (omega arith) done before.lowered

-- at first each sum is no way
pub least_begun : (a : Arcs) (costs next : List Pot) (n : ℕ) (z : ℤ) → IsPacked z → shown z ≡ NoWay → AreLeastSums a costs next (replicate n z) 0
least_begun a costs next n z packed none = record {
  sums = All-replicate (λ (v : ℤ). neg_ℤ (pos (10 ^ 37)) ≤ℤ v) n z (elim (kept_cases z packed) [ inl one ↦ one.1.0 | inr past ↦ omega (arith, ints, past.1) ]);
  least = λ column lt.
      let long : length (map shown (replicate n z)) ≡ n = simp (length-map, length-replicate) in
      let lt_n : column < n = omega arith in
      let is : slice_index_or (map shown (replicate n z)) column NoWay ≡ NoWay =
      get_or-map shown (replicate n z) column z NoWay (omega (arith, length-replicate n z)) ∙ ap shown (get_or-replicate n column z z lt_n) ∙ none in
      subst (λ (p : Pot). IsLeastOf (cost_by a costs next (a.floor + column)) 0 p) (sym is) (least_none (cost_by a costs next (a.floor + column)));
}

-- one more move
pub sums_lowered : (a : Arcs) (costs next : List Pot) (old new : List ℤ) (k : ℕ) (cost e : Pot) (d : Move) → AreLeastSums a costs next old k → k < length a.moves → length costs ≡ length a.moves → e ≡ slice_index_or costs k e → e ≡ cost → length new ≡ length old → AreSums new
    → IsLowered a (slice_index_or a.moves k d) cost next (map shown old) (map shown new) → AreLeastSums a costs next new (k + 1)
sums_lowered a costs next old new k cost e d before lt long read is same sums lowered =
    let mapped : length (map shown new) ≡ length (map shown old) = simp length-map same in
    record { sums = sums; least = least_lowered a costs next (map shown old) (map shown new) k cost e d before.least lt long (sym read ∙ is) mapped lowered }

-- one more move that may not be used
pub sums_skipped : (a : Arcs) (costs next : List Pot) (row : List ℤ) (k : ℕ) (e : Pot) (d : Move) → AreLeastSums a costs next row k → k < length a.moves → length costs ≡ length a.moves → e ≡ slice_index_or costs k e → e ≡ NoWay → AreLeastSums a costs next row (k + 1)
sums_skipped a costs next row k e d before lt long read none =
    record { sums = before.sums; least = least_skipped a costs next (map shown row) k e d before.least lt long (sym read ∙ none) }

-- all moves
pub sums_least : (a : Arcs) (t : ℕ) (costs next : List Pot) (row : List ℤ) (k : ℕ) → AreLeastSums a costs next row k → k ≡ length a.moves → AreCostsAt a t costs → HasCheapest a (t + 1) next → t < intervals_of a → a.floor + length row ≡ a.capacity + 1 → HasCheapest a t (map shown row)
sums_least a t costs next row k least all are after_is inside wide =
    let long : length (map shown row) ≡ length row = simp length-map in
    least_all a t costs next (map shown row) k least.least all are after_is inside (omega arith)

-- one more entry is what its sum stands for
pub written_more : (sums : List ℤ) (row : List Pot) (i : ℕ) (value : Pot) → i < length sums → i < length row → take i row ≡ take i (map shown sums) → value ≡ shown (slice_index_or sums i (pos 0)) → take (i + 1) (slice_set row i value) ≡ take (i + 1) (map shown sums)
written_more sums row i value lt inside before is =
    let long : length (map shown sums) ≡ length sums = simp length-map in
    take_more_set row i value inside ∙ ap (λ (l : List Pot). l ++ value ∷ []) before
    ∙ ap (λ (p : Pot). take i (map shown sums) ++ p ∷ []) (is ∙ sym (get_or-map shown sums i (pos 0) NoWay lt))
    ∙ sym (take_more (map shown sums) i NoWay (omega arith))

-- Places in rising lists, and what lies between two of them.
use Rattle.std.proofs.Common.{ℕ, ℤ, suc, zero, pos, true, false, ◌≤ℤ◌, ◌<ℤ◌, ◌≡◌, ◌<◌, ◌≤◌, ◌+◌, ◌-◌, int_lt, int_le, List, [], ◌∷◌, length, take, drop, slice_index_or, sym, ap, refl, arith, ◌∙◌}
use Rattle.std.specs.List.Sorted.{IsPartitionPoint, IsPartitionedBy}
use Rattle.std.proofs.lemmas.Int.{ints}
use Rattle.std.proofs.lemmas.List.{length-drop, length-take-le, get_or-drop, get_or-take}
use Rattle.std.proofs.lemmas.List.Elements.{filter_passes}
use Rattle.d_box.specs.declared.space.Range.{Range}
use Rattle.d_box.specs.Boxes.{number_at}
use Rattle.d_box.specs.Candidates.{IsRising, is_in, in_range, next_above}
use Rattle.d_box.specs.Splits.{middle}
use Rattle.d_box.proofs.ListFacts.{in_from, in_test, above_test, not_above_test, not_above}

-- in a rising list the numbers below one come first
pub parted_below : (xs : List ℤ) (x : ℤ) → IsRising xs → IsPartitionedBy (λ c. int_lt c x) xs
parted_below xs x rising i j d le lt test = before (slice_index_or xs i d) (slice_index_or xs j d) x (not_above xs i j d rising le lt) test
  where
    before : (a b x : ℤ) → a ≤ℤ b → int_lt b x ≡ true → int_lt a x ≡ true
    before a b x h e = grind (arith, ints)

-- and so do those that are at most one
pub parted_up_to : (xs : List ℤ) (x : ℤ) → IsRising xs → IsPartitionedBy (λ c. int_le c x) xs
parted_up_to xs x rising i j d le lt test = before (slice_index_or xs i d) (slice_index_or xs j d) x (not_above xs i j d rising le lt) test
  where
    before : (a b x : ℤ) → a ≤ℤ b → int_le b x ≡ true → int_le a x ≡ true
    before a b x h e = grind (arith, ints)

-- a place by a test, in numbers
pub place_below : (xs : List ℤ) (x : ℤ) (n : ℕ) → IsPartitionPoint (λ c. int_lt c x ≡ true) (λ c. int_lt c x ≡ false) xs n
    → IsPartitionPoint (λ c. c <ℤ x) (λ c. x ≤ℤ c) xs n
place_below xs x n point = (λ k d from lt. passes (slice_index_or xs k d) x (point.0 k d from lt), λ k d from lt. fails (slice_index_or xs k d) x (point.1 k d from lt))
  where
    passes : (c x : ℤ) → int_lt c x ≡ true → c <ℤ x
    passes c x e = grind (arith, ints)

    fails : (c x : ℤ) → int_lt c x ≡ false → x ≤ℤ c
    fails c x e = grind (arith, ints)

pub place_up_to : (xs : List ℤ) (x : ℤ) (n : ℕ) → IsPartitionPoint (λ c. int_le c x ≡ true) (λ c. int_le c x ≡ false) xs n
    → IsPartitionPoint (λ c. c ≤ℤ x) (λ c. x <ℤ c) xs n
place_up_to xs x n point = (λ k d from lt. passes (slice_index_or xs k d) x (point.0 k d from lt), λ k d from lt. fails (slice_index_or xs k d) x (point.1 k d from lt))
  where
    passes : (c x : ℤ) → int_le c x ≡ true → c ≤ℤ x
    passes c x e = grind (arith, ints)

    fails : (c x : ℤ) → int_le c x ≡ false → x <ℤ c
    fails c x e = grind (arith, ints)

-- the number at the place behind those that are at most x is the next above it
pub next_at : (xs : List ℤ) (x : ℤ) (n : ℕ) → IsPartitionPoint (λ c. c ≤ℤ x) (λ c. x <ℤ c) xs n → next_above xs x ≡ slice_index_or xs n x
next_at [] x n point = refl
next_at (y ∷ ys) x zero point = rw (above_test x y (point.1 0 (pos 0) (omega arith) (omega arith))) refl
next_at (y ∷ ys) x (suc n) point =
    rw (not_above_test x y (point.0 0 (pos 0) (omega arith) (omega arith)))
    (next_at ys x n (λ k d from lt. point.0 (suc k) d (omega arith) (omega arith), λ k d from lt. point.1 (suc k) d (omega arith) (omega arith)))

outside_low : (r : Range) (c : ℤ) → c <ℤ r.low → is_in r c ≡ false
outside_low r c lt = grind (arith, ints)

outside_high : (r : Range) (c : ℤ) → r.high <ℤ c → is_in r c ≡ false
outside_high r c lt = grind (arith, ints)

apart : (r : Range) (c : ℤ) → r.low ≤ℤ r.high → c <ℤ r.low → r.high <ℤ c → ⊥
apart r c order low high = omega (arith, ints)

-- what a range has of a list lies between both places
between : (r : Range) (xs : List ℤ) (first end : ℕ) → r.low ≤ℤ r.high → first ≤ length xs → end ≤ length xs
    → IsPartitionPoint (λ c. c <ℤ r.low) (λ c. r.low ≤ℤ c) xs first → IsPartitionPoint (λ c. c ≤ℤ r.high) (λ c. r.high <ℤ c) xs end
    → in_range r xs ≡ drop first (take end xs)
between r [] zero zero order few_first few_end low high = refl
between r [] (suc first) end order few_first few_end low high = absurd (omega arith)
between r [] zero (suc end) order few_first few_end low high = absurd (omega arith)
between r (x ∷ xs) (suc first) zero order few_first few_end low high =
    absurd (apart r x order (low.0 0 (pos 0) (omega arith) (omega arith)) (high.1 0 (pos 0) (omega arith) (omega arith)))
between r (x ∷ xs) (suc first) (suc end) order few_first few_end low high =
    rw (outside_low r x (low.0 0 (pos 0) (omega arith) (omega arith)))
    (between r xs first end order (omega arith) (omega arith)
    (λ k d from lt. low.0 (suc k) d (omega arith) (omega arith), λ k d from lt. low.1 (suc k) d (omega arith) (omega arith))
    (λ k d from lt. high.0 (suc k) d (omega arith) (omega arith), λ k d from lt. high.1 (suc k) d (omega arith) (omega arith)))
between r (x ∷ xs) zero zero order few_first few_end low high =
    rw (outside_high r x (high.1 0 (pos 0) (omega arith) (omega arith)))
    (between r xs zero zero order (omega arith) (omega arith)
    (λ k d from lt. absurd (omega arith), λ k d from lt. low.1 (suc k) d (omega arith) (omega arith))
    (λ k d from lt. absurd (omega arith), λ k d from lt. high.1 (suc k) d (omega arith) (omega arith)))
between r (x ∷ xs) zero (suc end) order few_first few_end low high =
    rw (in_test r x (low.1 0 (pos 0) (omega arith) (omega arith)) (high.0 0 (pos 0) (omega arith) (omega arith)))
    (ap (λ (l : List ℤ). x ∷ l) (between r xs zero end order (omega arith) (omega arith)
    (λ k d from lt. absurd (omega arith), λ k d from lt. low.1 (suc k) d (omega arith) (omega arith))
    (λ k d from lt. high.0 (suc k) d (omega arith) (omega arith), λ k d from lt. high.1 (suc k) d (omega arith) (omega arith))))

-- the middle of what a range has, said of the whole list
pub record IsMiddleAt (r : Range) (xs : List ℤ) (first end : ℕ) : Type 0 where
  pub some : first < end
  pub few : end ≤ length xs
  pub is : number_at xs (first + middle (end - first)) ≡ number_at (in_range r xs) (middle (length (in_range r xs)))

pub middle_at : (r : Range) (xs : List ℤ) (first end : ℕ) → 1 ≤ length (in_range r xs) → first ≤ length xs → end ≤ length xs
    → IsPartitionPoint (λ c. c <ℤ r.low) (λ c. r.low ≤ℤ c) xs first → IsPartitionPoint (λ c. c ≤ℤ r.high) (λ c. r.high <ℤ c) xs end
    → IsMiddleAt r xs first end
middle_at r xs first end some few_first few_end low high =
    let one = in_from r (number_at (in_range r xs) 0) (filter_passes (is_in r) xs 0 (pos 0) (omega arith)) in
    let kept = between r xs first end (under _ _ _ one.0 one.1) few_first few_end low high in
    let long : length (in_range r xs) ≡ end - first = ap length kept ∙ (length-drop first (take end xs) ∙ ap (λ n. n - first) (length-take-le end xs few_end)) in
    let place = middle (end - first) in
    let within : first + place < end = placed first end (length (in_range r xs)) some long in
    record {
      some = omega arith;
      few = few_end;
      is = sym (ap (number_at (in_range r xs)) (ap middle long) ∙ (ap (λ q. number_at q place) kept
          ∙ (get_or-drop first (take end xs) place (pos 0) ∙ get_or-take end xs (first + place) (pos 0) within)));
    }
  where
    under : (a b c : ℤ) → a ≤ℤ b → b ≤ℤ c → a ≤ℤ c
    under a b c x y = omega (arith, ints)

    placed : (first end count : ℕ) → 1 ≤ count → count ≡ end - first → first + middle (end - first) < end
    placed first end count some long = omega arith

-- The least value of a range of whole numbers.
use Rattle.std.proofs.Common.{◌≡◌, ◌⊎◌, inl, inr, ℕ, zero, suc, ℤ, pos, ◌≤◌, ◌+ℤ◌, ◌-ℤ◌, ◌≤ℤ◌, arith, ap, subst, ◌∙◌, unsigned_abs}
use Rattle.std.specs.Int.{int_min}
use Rattle.std.proofs.lemmas.Int.{ints, clamps}
use Rattle.d_tier.specs.Gaps.{gap_at, least_from, IsLeastOf, LeastGapIsLeast}

-- no value of the range is below the least
pub least_low : (low : ℤ) (n : ℕ) (f : ℤ → ℤ) (k : ℕ) → k ≤ n → least_from low n f ≤ℤ f (low +ℤ pos k)
unfolding least_from
least_low low zero f k within =
    let e : low +ℤ pos k ≡ low = omega (arith, ints) in
    let same : f (low +ℤ pos k) ≡ f low = ap f e in
    omega (arith, ints)
least_low low (suc n) f k within = by_place (λ less. least_low low n f k less) (last k n within)
  where
    last : (k n : ℕ) → k ≤ suc n → (k ≡ suc n) ⊎ (k ≤ n)
    last k n h = grind arith

    by_place : (k ≤ n → least_from low n f ≤ℤ f (low +ℤ pos k)) → (k ≡ suc n) ⊎ (k ≤ n) → int_min (least_from low n f) (f (low +ℤ pos (suc n))) ≤ℤ f (low +ℤ pos k)
    by_place earlier (inl e) = let same : f (low +ℤ pos k) ≡ f (low +ℤ pos (suc n)) = ap (λ (j : ℕ). f (low +ℤ pos j)) e in omega (arith, ints, clamps)
    by_place earlier (inr less) = let before = earlier less in omega (arith, ints, clamps)

-- the least is one of the values
pub least_reached : (low : ℤ) (n : ℕ) (f : ℤ → ℤ) → (k : ℕ) × ((k ≤ n) × (least_from low n f ≡ f (low +ℤ pos k)))
unfolding least_from
least_reached low zero f = (0, (omega arith, ap f (none low)))
  where
    none : (low : ℤ) → low ≡ low +ℤ pos 0
    none low = omega (arith, ints)
least_reached low (suc n) f = by_value (least_reached low n f) (one_of (least_from low n f) (f (low +ℤ pos (suc n))))
  where
    one_of : (a b : ℤ) → (int_min a b ≡ a) ⊎ (int_min a b ≡ b)
    one_of a b = grind (arith, ints)

    by_value : (k : ℕ) × ((k ≤ n) × (least_from low n f ≡ f (low +ℤ pos k))) → (int_min (least_from low n f) (f (low +ℤ pos (suc n))) ≡ least_from low n f) ⊎ (int_min (least_from low n f) (f (low +ℤ pos (suc n))) ≡ f (low +ℤ pos (suc n))) →
        (k : ℕ) × ((k ≤ suc n) × (int_min (least_from low n f) (f (low +ℤ pos (suc n))) ≡ f (low +ℤ pos k)))
    by_value before (inl e) = let within = before.1.0 in (before.0, (omega arith, e ∙ before.1.1))
    by_value before (inr e) = (suc n, (omega arith, e))

-- the place of an amount in its range
pub distance : (low x : ℤ) → low ≤ℤ x → low +ℤ pos (unsigned_abs (x -ℤ low)) ≡ x
distance low x above = grind (arith, ints)

-- the least of a range in the words of its ends
pub least_of : (f : ℤ → ℤ) (low high : ℤ) → low ≤ℤ high → IsLeastOf f low high (least_from low (unsigned_abs (high -ℤ low)) f)
least_of f low high order =
    let n = unsigned_abs (high -ℤ low) in
    let far = distance low high order in
    let reached = least_reached low n f in
    let few = reached.1.0 in
    record {
      amount = low +ℤ pos reached.0;
      above = omega (arith, ints);
      below = inside low high reached.0 n far few;
      reached = reached.1.1;
      none_below = λ x above below.
          subst (λ (z : ℤ). least_from low n f ≤ℤ f z) (distance low x above) (least_low low n f (unsigned_abs (x -ℤ low)) (closer low x high (unsigned_abs (x -ℤ low)) n (distance low x above) far below));
    }
  where
    inside : (low high : ℤ) (k n : ℕ) → low +ℤ pos n ≡ high → k ≤ n → (low +ℤ pos k) ≤ℤ high
    inside low high k n e few = omega (arith, ints)

    closer : (low x high : ℤ) (k n : ℕ) → low +ℤ pos k ≡ x → low +ℤ pos n ≡ high → x ≤ℤ high → k ≤ n
    closer low x high k n e f below = omega (arith, ints)

pub least_gap_law : LeastGapIsLeast
least_gap_law tiers low high slope order = least_of (gap_at tiers slope) low high order

-- Sums and greatest values.
use Rattle.std.proofs.Common.{◌≡◌, ◌⊎◌, inl, inr, ℕ, zero, suc, ℤ, pos, ◌+◌, ◌*◌, ◌<◌, ◌≤◌, ◌+ℤ◌, ◌-ℤ◌, ◌*ℤ◌, ◌≤ℤ◌, arith, refl, ap, ◌∙◌, add-one, ◌==◌, if◌then◌else◌}
use Rattle.std.proofs.Math.Path.{ap₂}
use Rattle.std.specs.Int.{int_max, int_min}
use Rattle.std.proofs.lemmas.Int.{ints, clamps}
use Rattle.std.proofs.lemmas.Bool.Decides.{nat_tests}
use Rattle.d_num.specs.Amount.{IsWithin, IsUpTo}
use Rattle.d_num.specs.Sums.{sum_of_first, greatest_of_first}
use Rattle.d_num.proofs.Times.{times_sum, times_zero}

-- one more term
pub sum_more : (n : ℕ) (f : ℕ → ℤ) → sum_of_first (n + 1) f ≡ sum_of_first n f +ℤ f n
unfolding sum_of_first
sum_more n f = rw add-one refl

-- no term
pub sum_none : (f : ℕ → ℤ) → sum_of_first 0 f ≡ pos 0
unfolding sum_of_first
sum_none f = refl

-- the same terms
pub sum_same : (n : ℕ) (f g : ℕ → ℤ) → ((k : ℕ) → k < n → f k ≡ g k) → sum_of_first n f ≡ sum_of_first n g
unfolding sum_of_first
sum_same zero f g same = refl
sum_same (suc n) f g same = ap₂ ◌+ℤ◌ (sum_same n f g (λ k below. same k (omega arith))) (same n (omega arith))

-- a sum of sums
pub sum_both : (n : ℕ) (f g : ℕ → ℤ) → sum_of_first n (λ k. f k +ℤ g k) ≡ sum_of_first n f +ℤ sum_of_first n g
unfolding sum_of_first
sum_both zero f g = omega (arith, ints)
sum_both (suc n) f g = regroup (sum_of_first n (λ k. f k +ℤ g k)) (sum_of_first n f) (sum_of_first n g) (f n) (g n) (sum_both n f g)
  where
    regroup : (all one other a b : ℤ) → all ≡ one +ℤ other → all +ℤ (a +ℤ b) ≡ (one +ℤ a) +ℤ (other +ℤ b)
    regroup all one other a b e = omega (arith, ints)

-- a sum of differences
pub sum_less : (n : ℕ) (f g : ℕ → ℤ) → sum_of_first n (λ k. f k -ℤ g k) ≡ sum_of_first n f -ℤ sum_of_first n g
unfolding sum_of_first
sum_less zero f g = omega (arith, ints)
sum_less (suc n) f g = regroup (sum_of_first n (λ k. f k -ℤ g k)) (sum_of_first n f) (sum_of_first n g) (f n) (g n) (sum_less n f g)
  where
    regroup : (all one other a b : ℤ) → all ≡ one -ℤ other → all +ℤ (a -ℤ b) ≡ (one +ℤ a) -ℤ (other +ℤ b)
    regroup all one other a b e = omega (arith, ints)

-- all terms 0
pub sum_zero : (n : ℕ) (f : ℕ → ℤ) → ((k : ℕ) → k < n → f k ≡ pos 0) → sum_of_first n f ≡ pos 0
unfolding sum_of_first
sum_zero zero f none = refl
sum_zero (suc n) f none = let before = sum_zero n f (λ k below. none k (omega arith)) in let last = none n (omega arith) in omega (arith, ints)

-- one term that isn't 0
pub sum_one : (n q : ℕ) (f : ℕ → ℤ) → q < n → sum_of_first n (λ k. if q == k then f k else pos 0) ≡ f q
unfolding sum_of_first
sum_one zero q f below = absurd (omega arith)
sum_one (suc n) q f below = by_place (λ less. sum_one n q f less) (last q n below)
  where
    last : (q n : ℕ) → q < suc n → (q ≡ n) ⊎ (q < n)
    last q n below = grind arith

    here : (q k : ℕ) (x : ℤ) → q ≡ k → (if q == k then x else pos 0) ≡ x
    here q k x e = grind (arith, nat_tests)

    elsewhere : (q k : ℕ) (x : ℤ) → (q ≡ k → ⊥) → (if q == k then x else pos 0) ≡ pos 0
    elsewhere q k x apart = grind (arith, nat_tests)

    joined : (before last x y : ℤ) → before ≡ x → last ≡ y → before +ℤ last ≡ x +ℤ y
    joined before last x y e f = ap₂ ◌+ℤ◌ e f

    by_place : (q < n → sum_of_first n (λ k. if q == k then f k else pos 0) ≡ f q) → (q ≡ n) ⊎ (q < n) → sum_of_first n (λ k. if q == k then f k else pos 0) +ℤ (if q == n then f n else pos 0) ≡ f q
    by_place earlier (inl e) =
        let before = sum_zero n (λ k. if q == k then f k else pos 0) (λ k below. elsewhere q k (f k) (λ same. omega arith)) in
        let at = here q n (f n) e in
        let value : f q ≡ f n = ap f e in
        omega (arith, ints)
    by_place earlier (inr less) =
        let before = earlier less in
        let at = elsewhere q n (f n) (λ same. omega arith) in
        omega (arith, ints)

-- a number times a sum
pub sum_times_each : (n : ℕ) (c : ℤ) (f : ℕ → ℤ) → c *ℤ sum_of_first n f ≡ sum_of_first n (λ k. c *ℤ f k)
unfolding sum_of_first
sum_times_each zero c f = times_zero c
sum_times_each (suc n) c f = times_sum c (sum_of_first n f) (f n) ∙ ap (λ (z : ℤ). z +ℤ c *ℤ f n) (sum_times_each n c f)

-- terms from 0 to a limit
pub sum_up_to : (m n : ℕ) (f : ℕ → ℤ) → ((k : ℕ) → k < n → IsUpTo m (f k)) → IsUpTo (m * n) (sum_of_first n f)
unfolding sum_of_first
sum_up_to m zero f each = (omega (arith, ints), omega (arith, ints))
sum_up_to m (suc n) f each =
    let before = sum_up_to m n f (λ k below. each k (omega arith)) in
    let last = each n (omega arith) in
    (omega (arith, ints), omega (arith, ints))

-- terms of a size
pub sum_within : (m n : ℕ) (f : ℕ → ℤ) → ((k : ℕ) → k < n → IsWithin m (f k)) → IsWithin (m * n) (sum_of_first n f)
unfolding sum_of_first
sum_within m zero f each = (omega (arith, ints), omega (arith, ints))
sum_within m (suc n) f each =
    let before = sum_within m n f (λ k below. each k (omega arith)) in
    let last = each n (omega arith) in
    (omega (arith, ints), omega (arith, ints))

-- one more value
pub greatest_more : (n : ℕ) (f : ℕ → ℤ) → greatest_of_first (n + 1) f ≡ int_max (greatest_of_first n f) (f n)
unfolding greatest_of_first
greatest_more n f = rw add-one refl

-- no value
pub greatest_none : (f : ℕ → ℤ) → greatest_of_first 0 f ≡ pos 0
unfolding greatest_of_first
greatest_none f = refl

-- values up to a limit
pub greatest_up_to : (m n : ℕ) (f : ℕ → ℤ) → ((k : ℕ) → k < n → f k ≤ℤ pos m) → IsUpTo m (greatest_of_first n f)
unfolding greatest_of_first
greatest_up_to m zero f each = (omega (arith, ints), omega (arith, ints))
greatest_up_to m (suc n) f each =
    let before = greatest_up_to m n f (λ k below. each k (omega arith)) in
    let last = each n (omega arith) in
    (omega (arith, ints, clamps), omega (arith, ints, clamps))

-- the same values
pub greatest_same : (n : ℕ) (f g : ℕ → ℤ) → ((k : ℕ) → k < n → f k ≡ g k) → greatest_of_first n f ≡ greatest_of_first n g
unfolding greatest_of_first
greatest_same zero f g same = refl
greatest_same (suc n) f g same = ap₂ int_max (greatest_same n f g (λ k below. same k (omega arith))) (same n (omega arith))

-- Sums and greatest values of terms that are in order.
use Rattle.std.proofs.Common.{◌≡◌, ◌⊎◌, inl, inr, ℕ, zero, suc, ℤ, pos, ◌<◌, ◌≤ℤ◌, refl, arith}
use Rattle.std.specs.Int.{int_max}
use Rattle.std.proofs.lemmas.Int.{ints, clamps}
use Rattle.d_num.specs.Sums.{sum_of_first, greatest_of_first}

-- greater terms have a greater sum
pub sum_rises : (n : ℕ) (f g : ℕ → ℤ) → ((k : ℕ) → k < n → f k ≤ℤ g k) → sum_of_first n f ≤ℤ sum_of_first n g
unfolding sum_of_first
sum_rises zero f g each = omega (arith, ints)
sum_rises (suc n) f g each = let before = sum_rises n f g (λ k below. each k (omega arith)) in let last = each n (omega arith) in omega (arith, ints)

-- the last number below one more, or an earlier one
pub last_or : (k n : ℕ) → k < suc n → (k ≡ n) ⊎ (k < n)
last_or k n below = grind arith

-- each term is at most the greatest
pub greatest_above : (n : ℕ) (f : ℕ → ℤ) (k : ℕ) → k < n → f k ≤ℤ greatest_of_first n f
unfolding greatest_of_first
greatest_above zero f k below = absurd (omega arith)
greatest_above (suc n) f k below = elim (last_or k n below) [
  | inl same ↦ here (greatest_of_first n f) (f n) (f k) (rw same refl)
  | inr less ↦ earlier (greatest_of_first n f) (f n) (f k) (greatest_above n f k less)
]
  where
    here : (before last x : ℤ) → x ≡ last → x ≤ℤ int_max before last
    here before last x e = omega (arith, ints, clamps)

    earlier : (before last x : ℤ) → x ≤ℤ before → x ≤ℤ int_max before last
    earlier before last x h = omega (arith, ints, clamps)

-- the greatest is 0 or one of the terms
pub record IsTerm (n : ℕ) (f : ℕ → ℤ) (x : ℤ) : Type 0 where
  pub place : ℕ
  pub inside : place < n
  pub is : x ≡ f place

pub greatest_reached : (n : ℕ) (f : ℕ → ℤ) → (greatest_of_first n f ≡ pos 0) ⊎ IsTerm n f (greatest_of_first n f)
unfolding greatest_of_first
greatest_reached zero f = inl refl
greatest_reached (suc n) f = by_last (greatest_of_first n f) (which (greatest_of_first n f) (f n)) (greatest_reached n f)
  where
    which : (before last : ℤ) → (int_max before last ≡ before) ⊎ (int_max before last ≡ last)
    which before last = grind (arith, ints, clamps)

    by_last : (before : ℤ) → (int_max before (f n) ≡ before) ⊎ (int_max before (f n) ≡ f n) → (before ≡ pos 0) ⊎ IsTerm n f before → (int_max before (f n) ≡ pos 0) ⊎ IsTerm (suc n) f (int_max before (f n))
    by_last before (inr last) earlier = inr (record { place = n; inside = omega arith; is = last })
    by_last before (inl kept) (inl none) = inl (rw kept none)
    by_last before (inl kept) (inr term) = inr (record { place = term.place; inside = omega (arith, term.inside); is = rw kept term.is })

-- where no term is above a limit from 0 up, the greatest isn't
pub greatest_below : (n : ℕ) (f : ℕ → ℤ) (most : ℤ) → pos 0 ≤ℤ most → ((k : ℕ) → k < n → f k ≤ℤ most) → greatest_of_first n f ≤ℤ most
unfolding greatest_of_first
greatest_below zero f most low each = low
greatest_below (suc n) f most low each =
    let before = greatest_below n f most low (λ k below. each k (omega arith)) in
    let last = each n (omega arith) in
    omega (arith, ints, clamps)

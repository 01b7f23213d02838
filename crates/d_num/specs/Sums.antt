-- Sums and greatest values over the first so many whole numbers.
use Rattle.std.specs.Prelude.{ℕ, zero, suc, ℤ, pos, ◌+ℤ◌}
use Rattle.std.specs.Int.{int_max}

-- f 0 + f 1 + .. + f (n - 1)
unfoldable pub sum_of_first : ℕ → (ℕ → ℤ) → ℤ
sum_of_first zero f = pos 0
sum_of_first (suc n) f = sum_of_first n f +ℤ f n

-- the greatest of f 0, f 1 .. f (n - 1); 0 where none is greater
unfoldable pub greatest_of_first : ℕ → (ℕ → ℤ) → ℤ
greatest_of_first zero f = pos 0
greatest_of_first (suc n) f = int_max (greatest_of_first n f) (f n)

-- Products of signed numbers over sums and differences.
use Rattle.std.proofs.Common.{◌≡◌, ℕ, zero, suc, ℤ, pos, negsuc, ◌+ℤ◌, ◌-ℤ◌, ◌*ℤ◌, ◌≤ℤ◌, arith, sym, ap, ◌∙◌}
use Rattle.std.proofs.Math.IntN.{suc_ℤ, pred_ℤ, suc_ℤ-*ℤ, pred_ℤ-*ℤ, zero-*ℤ, *ℤ_comm}
use Rattle.std.proofs.Math.Path.{ap₂}
use Rattle.std.proofs.lemmas.Int.{ints}

zero_sum : (b : ℤ) → pos 0 +ℤ b ≡ b
zero_sum b = omega (arith, ints)

up_is : (a : ℤ) → suc_ℤ a ≡ a +ℤ pos 1
up_is (pos n) = omega (arith, ints)
up_is (negsuc zero) = omega (arith, ints)
up_is (negsuc (suc n)) = omega (arith, ints)

down_is : (a : ℤ) → pred_ℤ a ≡ a -ℤ pos 1
down_is (pos zero) = omega (arith, ints)
down_is (pos (suc n)) = omega (arith, ints)
down_is (negsuc n) = omega (arith, ints)

-- one more in the first factor
one_more : (a k : ℤ) → (a +ℤ pos 1) *ℤ k ≡ a *ℤ k +ℤ k
one_more a k = ap (λ (z : ℤ). z *ℤ k) (sym (up_is a)) ∙ suc_ℤ-*ℤ a k

-- one less
one_less : (a k : ℤ) → (a -ℤ pos 1) *ℤ k ≡ a *ℤ k -ℤ k
one_less a k = ap (λ (z : ℤ). z *ℤ k) (sym (down_is a)) ∙ pred_ℤ-*ℤ a k

-- from a sum to one with a first summand that is one more
sum_more : (a b k : ℤ) → (a +ℤ b) *ℤ k ≡ a *ℤ k +ℤ b *ℤ k → ((a +ℤ pos 1) +ℤ b) *ℤ k ≡ (a +ℤ pos 1) *ℤ k +ℤ b *ℤ k
sum_more a b k e =
    let moved : (a +ℤ pos 1) +ℤ b ≡ (a +ℤ b) +ℤ pos 1 = omega (arith, ints) in
    let whole : ((a +ℤ pos 1) +ℤ b) *ℤ k ≡ (a +ℤ b) *ℤ k +ℤ k = ap (λ (z : ℤ). z *ℤ k) moved ∙ one_more (a +ℤ b) k in
    let part = one_more a k in
    linear (((a +ℤ pos 1) +ℤ b) *ℤ k) ((a +ℤ b) *ℤ k) ((a +ℤ pos 1) *ℤ k) (a *ℤ k) (b *ℤ k) k whole part e
  where
    linear : (whole before part old other k : ℤ) → whole ≡ before +ℤ k → part ≡ old +ℤ k → before ≡ old +ℤ other → whole ≡ part +ℤ other
    linear whole before part old other k e f g = omega (arith, ints)

sum_less : (a b k : ℤ) → (a +ℤ b) *ℤ k ≡ a *ℤ k +ℤ b *ℤ k → ((a -ℤ pos 1) +ℤ b) *ℤ k ≡ (a -ℤ pos 1) *ℤ k +ℤ b *ℤ k
sum_less a b k e =
    let moved : (a -ℤ pos 1) +ℤ b ≡ (a +ℤ b) -ℤ pos 1 = omega (arith, ints) in
    let whole : ((a -ℤ pos 1) +ℤ b) *ℤ k ≡ (a +ℤ b) *ℤ k -ℤ k = ap (λ (z : ℤ). z *ℤ k) moved ∙ one_less (a +ℤ b) k in
    let part = one_less a k in
    linear (((a -ℤ pos 1) +ℤ b) *ℤ k) ((a +ℤ b) *ℤ k) ((a -ℤ pos 1) *ℤ k) (a *ℤ k) (b *ℤ k) k whole part e
  where
    linear : (whole before part old other k : ℤ) → whole ≡ before -ℤ k → part ≡ old -ℤ k → before ≡ old +ℤ other → whole ≡ part +ℤ other
    linear whole before part old other k e f g = omega (arith, ints)

-- a first summand of 0
sum_begins : (b k : ℤ) → (pos 0 +ℤ b) *ℤ k ≡ pos 0 *ℤ k +ℤ b *ℤ k
sum_begins b k = ap (λ (z : ℤ). z *ℤ k) (zero_sum b) ∙ sym (ap (λ (z : ℤ). z +ℤ b *ℤ k) (zero-*ℤ k) ∙ zero_sum (b *ℤ k))

-- a sum times a number is the sum of the products
pub sum_times : (a b k : ℤ) → (a +ℤ b) *ℤ k ≡ a *ℤ k +ℤ b *ℤ k
sum_times (pos zero) b k = sum_begins b k
sum_times (pos (suc n)) b k = rw (up n) (sum_more (pos n) b k (sum_times (pos n) b k))
  where
    up : (n : ℕ) → pos (suc n) ≡ pos n +ℤ pos 1
    up n = omega (arith, ints)
sum_times (negsuc zero) b k = sum_less (pos 0) b k (sum_begins b k)
sum_times (negsuc (suc n)) b k = rw (down n) (sum_less (negsuc n) b k (sum_times (negsuc n) b k))
  where
    down : (n : ℕ) → negsuc (suc n) ≡ negsuc n -ℤ pos 1
    down n = omega (arith, ints)

-- a number times a sum
pub times_sum : (k a b : ℤ) → k *ℤ (a +ℤ b) ≡ k *ℤ a +ℤ k *ℤ b
times_sum k a b = *ℤ_comm k (a +ℤ b) ∙ sum_times a b k ∙ ap₂ ◌+ℤ◌ (*ℤ_comm a k) (*ℤ_comm b k)

-- a number times a difference
pub times_difference : (k a b : ℤ) → k *ℤ (a -ℤ b) ≡ k *ℤ a -ℤ k *ℤ b
times_difference k a b =
    let parts : (a -ℤ b) +ℤ b ≡ a = omega (arith, ints) in
    let e : k *ℤ a ≡ k *ℤ (a -ℤ b) +ℤ k *ℤ b = ap (λ (z : ℤ). k *ℤ z) (sym parts) ∙ times_sum k (a -ℤ b) b in
    linear (k *ℤ a) (k *ℤ (a -ℤ b)) (k *ℤ b) e
  where
    linear : (whole rest part : ℤ) → whole ≡ rest +ℤ part → rest ≡ whole -ℤ part
    linear whole rest part e = omega (arith, ints)

-- a difference times a number
pub difference_times : (a b k : ℤ) → (a -ℤ b) *ℤ k ≡ a *ℤ k -ℤ b *ℤ k
difference_times a b k = *ℤ_comm (a -ℤ b) k ∙ times_difference k a b ∙ ap₂ ◌-ℤ◌ (*ℤ_comm k a) (*ℤ_comm k b)

-- what is from 0 up times what is from 0 up is from 0 up
pub product_low : (a b : ℤ) → pos 0 ≤ℤ a → pos 0 ≤ℤ b → pos 0 ≤ℤ (a *ℤ b)
product_low (pos m) (pos n) la lb = omega (arith, ints)
product_low (pos m) (negsuc n) la lb = absurd (omega (arith, ints))
product_low (negsuc m) b la lb = absurd (omega (arith, ints))

-- a factor of 0
pub times_zero : (k : ℤ) → k *ℤ pos 0 ≡ pos 0
times_zero k = *ℤ_comm k (pos 0) ∙ zero-*ℤ k

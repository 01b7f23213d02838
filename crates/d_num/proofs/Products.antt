-- How large a product of signed numbers can be.
use Rattle.std.proofs.Common.{◌≡◌, ℕ, ℤ, pos, ◌*◌, ◌≤◌, ◌*ℤ◌, ◌^◌, arith, FitsSigned, to_z, of_z, w64, unsigned_abs, negsuc}
use Rattle.std.specs.Int.{w128}
use Rattle.std.proofs.lemmas.Int.{ints, unsigned_abs-mul, to_z-of_z}
use Rattle.d_num.specs.Amount.{IsWithin, IsMoney}

-- a number within a size has an absolute value of at most that size
pub abs_within : (m : ℕ) (a : ℤ) → IsWithin m a → unsigned_abs a ≤ m
abs_within m (pos n) h = omega (arith, ints)
abs_within m (negsuc n) h = omega (arith, ints)

-- and the other way round
pub within_abs : (m : ℕ) (a : ℤ) → unsigned_abs a ≤ m → IsWithin m a
within_abs m (pos n) h = (omega (arith, ints), omega (arith, ints))
within_abs m (negsuc n) h = (omega (arith, ints), omega (arith, ints))

-- a product is at most the product of the sizes
pub product_within : (m n : ℕ) (a b : ℤ) → IsWithin m a → IsWithin n b → IsWithin (m * n) (a *ℤ b)
product_within m n a b ha hb =
    let size : unsigned_abs (a *ℤ b) ≡ unsigned_abs a * unsigned_abs b = unsigned_abs-mul a b in
    let first : unsigned_abs a ≤ m = abs_within m a ha in
    let second : unsigned_abs b ≤ n = abs_within n b hb in
    within_abs (m * n) (a *ℤ b) (grind arith)

-- a product of a price and an amount, as the processor's 128-bit words hold it, is the product
pub kept_product : (price amount : ℤ) → IsWithin (10 ^ 22) price → IsWithin (2 * 10 ^ 13) amount →
    to_z w128 (of_z w128 (to_z w128 (of_z w128 price) *ℤ to_z w128 (of_z w128 (to_z w64 (of_z w64 amount))))) ≡ price *ℤ amount
kept_product price amount hp ha =
    let fits_price : FitsSigned w128 price = omega (arith, ints) in
    let fits_amount : FitsSigned w128 amount = omega (arith, ints) in
    let fits_short : FitsSigned w64 amount = omega (arith, ints) in
    let product : IsWithin (2 * 10 ^ 35) (price *ℤ amount) = product_within (10 ^ 22) (2 * 10 ^ 13) price amount hp ha in
    let fits_product : FitsSigned w128 (price *ℤ amount) = omega (arith, ints) in
    simp to_z-of_z

-- and it is an amount of money
pub price_is_money : (price amount : ℤ) → IsWithin (10 ^ 22) price → IsWithin (2 * 10 ^ 13) amount → IsMoney (price *ℤ amount)
price_is_money price amount hp ha =
    let product : IsWithin (2 * 10 ^ 35) (price *ℤ amount) = product_within (10 ^ 22) (2 * 10 ^ 13) price amount hp ha in
    (omega (arith, ints), omega (arith, ints))

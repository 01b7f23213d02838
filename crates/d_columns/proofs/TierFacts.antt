-- Numbers of tiers by their digits.
use Rattle.std.proofs.Common.{◌≡◌, ◌<◌, ◌≤◌, ◌+◌, ◌-◌, ◌*◌, ℕ, true, List, [], ◌∷◌, length, get_or, arith, refl}
use Rattle.std.specs.Char.{digit_value}
use Rattle.std.specs.Str.Parse.{digits_value, digits_value_after}
use Rattle.std.proofs.lemmas.Str.{digit_value_digit}
use Rattle.d_columns.specs.Names.{is_digit, IsTierNumber}
use Rattle.d_columns.proofs.NumberFacts.{digit_range}

-- further digits make no number smaller
after_least : (n : ℕ) (digits : List ℕ) → n ≤ digits_value_after 10 n digits
after_least n [] = omega arith
after_least n (d ∷ digits) = let later = after_least (n * 10 + digit_value d) digits in omega arith

pub digit_is : (byte : ℕ) → is_digit byte ≡ true → digit_value byte + 48 ≡ byte
digit_is byte is = digit_value_digit byte (digit_range byte is)

-- one digit is below 10
pub one_value : (digits : List ℕ) → IsTierNumber digits → length digits ≡ 1 → digits_value 10 digits < 10
one_value [] number long = absurd (omega arith)
one_value (a ∷ []) number long =
    let is = number.all_digits 0 0 (omega arith) in
    omega (arith, digit_is a is, digit_range a is)
one_value (a ∷ b ∷ rest) number long = absurd (omega arith)

-- the number of two digits
pub two_value : (digits : List ℕ) → IsTierNumber digits → length digits ≡ 2
    → (get_or digits 0 0 - 48) * 10 + (get_or digits 1 0 - 48) ≡ digits_value 10 digits
two_value [] number long = absurd (omega arith)
two_value (a ∷ []) number long = absurd (omega arith)
two_value (a ∷ b ∷ []) number long =
    omega (arith, digit_is a (number.all_digits 0 0 (omega arith)), digit_is b (number.all_digits 1 0 (omega arith)))
two_value (a ∷ b ∷ c ∷ rest) number long = absurd (omega arith)

-- three digits or more, of which the first isn't 0
pub more_value : (digits : List ℕ) → IsTierNumber digits → (length digits ≡ 1 → ⊥) → (length digits ≡ 2 → ⊥) → 100 ≤ digits_value 10 digits
more_value [] number one two = absurd (omega (arith, number.some))
more_value (a ∷ []) number one two = absurd (one refl)
more_value (a ∷ b ∷ []) number one two = absurd (two refl)
more_value (a ∷ b ∷ c ∷ rest) number one two =
    let is = number.all_digits 0 0 (omega arith) in
    let other : a ≡ 48 → ⊥ = λ zero_front. let long = number.plain zero_front in omega arith in
    let least = first a (digit_range a is).0 other in
    let later = after_least (((0 * 10 + digit_value a) * 10 + digit_value b) * 10 + digit_value c) rest in
    omega (arith, digit_is a is)
  where
    first : (a : ℕ) → 48 ≤ a → (a ≡ 48 → ⊥) → 49 ≤ a
    first a least other = omega arith

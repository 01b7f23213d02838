-- The numbers of a certificate. Their form is our own rule.
use Rattle.std.specs.Prelude.{ℕ, zero, suc, ◌+◌, ◌-◌, ℤ, pos, negsuc, List, [], ◌∷◌, ◌++◌, length, map, replicate}
use Rattle.std.specs.Int.Digits.{digits_of}

-- the digits of a number, the highest first; none for 0
unfoldable pub decimal : ℕ → List ℕ
decimal n = map (λ digit. 48 + digit) (digits_of 10 n)

-- a number in decimal: 0, or its digits with no zero in front
unfoldable pub natural : ℕ → List ℕ
natural zero = 48 ∷ []
natural (suc n) = decimal (suc n)

-- a whole number: the same, with a minus where it is below 0
unfoldable pub whole : ℤ → List ℕ
whole (pos n) = natural n
whole (negsuc n) = 45 ∷ decimal (suc n)

-- a number in decimal, with zeros in front up to a width
unfoldable pub padded : ℕ → ℕ → List ℕ
padded width n = replicate (width - length (natural n)) 48 ++ natural n

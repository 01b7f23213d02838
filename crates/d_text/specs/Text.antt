-- The texts of numbers. All forms are our own rules.
use Rattle.std.specs.Prelude.{◌≡◌, ℕ, suc, ◌-◌, ◌/◌, ◌%◌, ◌^◌, ◌==◌, ◌&&◌, if◌then◌else◌, Bool, ℤ, pos, negsuc, List, [], ◌∷◌, ◌++◌, length, take, drop, replicate}
use Rattle.std.specs.Fmt.{decimal, signed_decimal}

-- the text stands at the front of the room and ends at this place; behind it the room is as before
pub record WritesFront (text before : List ℕ) (place : ℕ) (now : List ℕ) : Type 0 where
  pub ends : place ≡ length text
  pub writes : now ≡ text ++ drop (length text) before

-- a number in decimal, with zeros in front up to a width
abbrev pub zero_padded : ℕ → ℕ → List ℕ
zero_padded width number = replicate (width - length (decimal number)) 48 ++ decimal number

-- a text without the bytes of a kind at its end
unfoldable pub without_back : (ℕ → Bool) → List ℕ → List ℕ
without_back test [] = []
without_back test (byte ∷ rest) = if test byte && (length (without_back test rest) == 0) then [] else byte ∷ without_back test rest

-- decimals without the zeros at their end, but two at least
abbrev pub shortened : List ℕ → List ℕ
shortened decimals = take 2 decimals ++ without_back (λ digit. digit == 48) (drop 2 decimals)

-- so many units of 10^-places: the whole ones, a point and at least two decimals
abbrev pub size_text : ℕ → ℕ → List ℕ
size_text places units = decimal (units / 10 ^ places) ++ 46 ∷ shortened (zero_padded places (units % 10 ^ places))

-- the same with a minus in front where the number is below 0
abbrev pub amount_text : ℕ → ℤ → List ℕ
amount_text places (pos units) = size_text places units
amount_text places (negsuc units) = 45 ∷ size_text places (suc units)

-- money in USD, exactly
abbrev pub money_text : ℤ → List ℕ
money_text units = amount_text 21 units

-- a price in USD per kWh or per kW, exactly
abbrev pub rate_text : ℤ → List ℕ
rate_text units = amount_text 18 units

-- a whole number: 0, or a minus where it is below 0 and its digits with no zero in front
abbrev pub whole_text : ℤ → List ℕ
whole_text number = signed_decimal number

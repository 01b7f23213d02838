-- Decimals as the files write them, and what they say. The form is our own rule; it takes all numbers that spreadsheets write.
use Rattle.std.specs.Prelude.{◌≡◌, ℕ, ◌+◌, ◌*◌, ◌^◌, ◌<◌, ◌≤◌, ◌⊎◌, Bool, true, false, if◌then◌else◌, ℤ, pos, neg_ℤ, List, [], ◌∷◌, ◌++◌, length, take}
use Rattle.std.specs.Str.Parse.{AllDigits, IsNumeral, digits_value}

-- what a decimal says: whether a minus stands in front, the number that all its digits make, how many of them stand behind the
-- point, and its power of ten: whether that has a minus, and its number
pub record Written : Type 0 where
  pub minus : Bool
  pub digits : ℕ
  pub behind : ℕ
  pub down : Bool
  pub power : ℕ

-- no sign, a plus or a minus
abbrev pub IsSign : List ℕ → Bool → Type 0
IsSign sign minus = ((sign ≡ []) × (minus ≡ false)) ⊎ (((sign ≡ 43 ∷ []) × (minus ≡ false)) ⊎ ((sign ≡ 45 ∷ []) × (minus ≡ true)))

-- a sign or none, and one or more digits, which a point may lead, part or end
pub record IsMantissa (text : List ℕ) (minus : Bool) (digits behind : ℕ) : Type 0 where
  pub sign : List ℕ
  pub before : List ℕ
  pub point : List ℕ
  pub after : List ℕ
  pub form : text ≡ sign ++ (before ++ (point ++ after))
  pub sign_is : IsSign sign minus
  pub point_is : ((point ≡ []) × (after ≡ [])) ⊎ (point ≡ 46 ∷ [])
  pub before_digits : AllDigits 10 before
  pub after_digits : AllDigits 10 after
  pub some : 0 < length (before ++ after)
  pub digits_are : digits ≡ digits_value 10 (before ++ after)
  pub behind_is : behind ≡ length after

-- an e or E, a sign or none, and at least one digit
pub record IsExponent (text : List ℕ) (down : Bool) (power : ℕ) : Type 0 where
  pub mark : ℕ
  pub sign : List ℕ
  pub numeral : List ℕ
  pub form : text ≡ mark ∷ (sign ++ numeral)
  pub mark_is : (mark ≡ 101) ⊎ (mark ≡ 69)
  pub sign_is : IsSign sign down
  pub numeral_is : IsNumeral 10 numeral
  pub power_is : power ≡ digits_value 10 numeral

-- no exponent is the power 0
abbrev pub IsPower : List ℕ → Bool → ℕ → Type 0
IsPower text down power = ((text ≡ []) × (down ≡ false) × (power ≡ 0)) ⊎ IsExponent text down power

-- the text is a decimal that says this
pub record IsDecimalText (text : List ℕ) (w : Written) : Type 0 where
  pub mantissa : List ℕ
  pub exponent : List ℕ
  pub form : text ≡ mantissa ++ exponent
  pub mantissa_is : IsMantissa mantissa w.minus w.digits w.behind
  pub exponent_is : IsPower exponent w.down w.power

-- some decimal begins with the text
abbrev pub BeginsDecimal : List ℕ → Type 0
BeginsDecimal text = (rest : List ℕ) × (w : Written) × IsDecimalText (text ++ rest) w

-- the cell isn't empty and no decimal; so many of its bytes, and no more, are the beginning of some decimal
pub record IsFormFault (cell : List ℕ) (place : ℕ) : Type 0 where
  pub some : 0 < length cell
  pub other : (w : Written) → IsDecimalText cell w → ⊥
  pub within : place ≤ length cell
  pub begins : BeginsDecimal (take place cell)
  pub longest : (k : ℕ) → k ≤ length cell → BeginsDecimal (take k cell) → k ≤ place

-- the size of a decimal in units of 10^-places is size_over / size_under: the number of its digits times 10 to the power and the
-- places, less those behind the point
abbrev pub size_over : Written → ℕ → ℕ
size_over w places = if w.down then w.digits * 10 ^ places else w.digits * 10 ^ (w.power + places)

-- what `size_over` is divided by
abbrev pub size_under : Written → ℕ
size_under w = if w.down then 10 ^ (w.behind + w.power) else 10 ^ w.behind

-- the number with its sign
abbrev pub signed : Bool → ℕ → ℤ
signed minus size = if minus then neg_ℤ (pos size) else pos size

-- the size is at most the limit, both in units of 10^-places
abbrev pub IsInLimit : Written → ℕ → ℕ → Type 0
IsInLimit w places limit = size_over w places ≤ limit * 10 ^ places * size_under w

-- the value is exactly this number of units of 10^-places
abbrev pub IsUnits : Written → ℕ → ℤ → Type 0
IsUnits w places units = (size : ℕ) × (units ≡ signed w.minus size) × (size * size_under w ≡ size_over w places)

-- the greatest whole number that isn't above over / under
pub record IsGreatestBelow (size over under : ℕ) : Type 0 where
  pub below : size * under ≤ over
  pub greatest : (other : ℕ) → size < other → over < other * under

-- the least whole number that isn't below over / under
pub record IsLeastAbove (size over under : ℕ) : Type 0 where
  pub above : over ≤ size * under
  pub least : (other : ℕ) → other < size → other * under < over

-- rounded down is the greatest size below, or with a minus the least size above
abbrev pub IsNearest : Bool → ℕ → ℕ → ℕ → Type 0
IsNearest true size over under = IsLeastAbove size over under
IsNearest false size over under = IsGreatestBelow size over under

-- the value rounded down is this number of units of 10^-places
abbrev pub IsRoundedDown : Written → ℕ → ℤ → Type 0
IsRoundedDown w places units = (size : ℕ) × (units ≡ signed w.minus size) × IsNearest w.minus size (size_over w places) (size_under w)

-- How far a decimal is read.
use Rattle.std.specs.Prelude.{◌≡◌, ℕ, ◌+◌, ◌*◌, ◌^◌, ◌<◌, ◌≤◌, ◌⊎◌, min, Bool, true, false, ◌||◌, ◌&&◌, ◌==◌, nat_lt, if◌then◌else◌, Option, None, Some, List, [], ◌∷◌, ◌++◌, length}
use Rattle.std.specs.Str.Parse.{AllDigits, digits_value}
use Rattle.d_text.specs.Decimal.{IsSign, IsMantissa}
use Rattle.d_text.specs.declared.scan.Phase.{Phase}
use Rattle.d_text.specs.declared.scan.Phase.TheVariants.{Start, Signed, Whole, LonePoint, Fraction, Marked, MarkSigned, Power}
use Rattle.d_text.specs.declared.scan.Kind.{Kind}
use Rattle.d_text.specs.declared.scan.Kind.TheVariants.{Digit, Sign, Point, Mark, Other}
use Rattle.d_text.specs.declared.scan.Scan.{Scan}

-- what a byte is in a decimal
abbrev pub kind_of : ℕ → Kind
kind_of byte = if nat_lt 47 byte && nat_lt byte 58 then Digit else (if (byte == 43) || (byte == 45) then Sign else (if byte == 46 then Point else (if (byte == 101) || (byte == 69) then Mark else Other)))

-- where a digit leads
abbrev pub after_digit : Phase → Phase
after_digit Start = Whole
after_digit Signed = Whole
after_digit Whole = Whole
after_digit LonePoint = Fraction
after_digit Fraction = Fraction
after_digit Marked = Power
after_digit MarkSigned = Power
after_digit Power = Power

-- where a sign leads
abbrev pub after_sign : Phase → Option Phase
after_sign Start = Some Signed
after_sign Signed = None
after_sign Whole = None
after_sign LonePoint = None
after_sign Fraction = None
after_sign Marked = Some MarkSigned
after_sign MarkSigned = None
after_sign Power = None

-- where a point leads
abbrev pub after_point : Phase → Option Phase
after_point Start = Some LonePoint
after_point Signed = Some LonePoint
after_point Whole = Some Fraction
after_point LonePoint = None
after_point Fraction = None
after_point Marked = None
after_point MarkSigned = None
after_point Power = None

-- where an e leads
abbrev pub after_mark : Phase → Option Phase
after_mark Start = None
after_mark Signed = None
after_mark Whole = Some Marked
after_mark LonePoint = None
after_mark Fraction = Some Marked
after_mark Marked = None
after_mark MarkSigned = None
after_mark Power = None

-- where a byte leads
abbrev pub after_kind : Kind → Phase → Option Phase
after_kind Digit phase = Some (after_digit phase)
after_kind Sign phase = after_sign phase
after_kind Point phase = after_point phase
after_kind Mark phase = after_mark phase
after_kind Other phase = None

-- a decimal may end here
abbrev pub is_done : Phase → Bool
is_done Start = false
is_done Signed = false
is_done Whole = true
is_done LonePoint = false
is_done Fraction = true
is_done Marked = false
is_done MarkSigned = false
is_done Power = true

-- a number kept by its first digits, how many follow them, and whether one of those isn't 0
pub record Keeps (number top dropped : ℕ) (lost : Bool) : Type 0 where
  pub least : top * 10 ^ dropped ≤ number
  pub most : number < (top + 1) * 10 ^ dropped
  pub short : top < 10 ^ 38
  pub long : (dropped ≡ 0) ⊎ (10 ^ 37 ≤ top)
  pub exact : lost ≡ false → number ≡ top * 10 ^ dropped
  pub inexact : lost ≡ true → top * 10 ^ dropped < number

-- a sign or none and digits
pub record IsWhole (text : List ℕ) (minus : Bool) (digits behind : ℕ) : Type 0 where
  pub sign : List ℕ
  pub before : List ℕ
  pub form : text ≡ sign ++ before
  pub sign_is : IsSign sign minus
  pub before_digits : AllDigits 10 before
  pub some : 0 < length before
  pub digits_are : digits ≡ digits_value 10 before
  pub behind_is : behind ≡ 0

-- a sign or none, digits, a point and digits
pub record IsPointed (text : List ℕ) (minus : Bool) (digits behind count : ℕ) : Type 0 where
  pub sign : List ℕ
  pub before : List ℕ
  pub after : List ℕ
  pub form : text ≡ sign ++ (before ++ 46 ∷ after)
  pub sign_is : IsSign sign minus
  pub before_digits : AllDigits 10 before
  pub after_digits : AllDigits 10 after
  pub some : count ≤ length (before ++ after)
  pub digits_are : digits ≡ digits_value 10 (before ++ after)
  pub behind_is : behind ≡ length after

-- a mantissa, an e or E, a sign or none and digits
pub record IsMarked (text : List ℕ) (minus : Bool) (digits behind : ℕ) (down : Bool) (power count : ℕ) : Type 0 where
  pub mantissa : List ℕ
  pub mark : ℕ
  pub sign : List ℕ
  pub numeral : List ℕ
  pub form : text ≡ mantissa ++ (mark ∷ (sign ++ numeral))
  pub mantissa_is : IsMantissa mantissa minus digits behind
  pub mark_is : (mark ≡ 101) ⊎ (mark ≡ 69)
  pub sign_is : IsSign sign down
  pub numeral_digits : AllDigits 10 numeral
  pub power_is : power ≡ digits_value 10 numeral
  pub bare : count ≡ 0 → (sign ≡ []) × (numeral ≡ []) × (down ≡ false)
  pub signed_only : count ≡ 1 → numeral ≡ []
  pub some : count ≡ 2 → 0 < length numeral

-- no power is read yet
abbrev pub NoPower : Bool → ℕ → Type 0
NoPower down power = (down ≡ false) × (power ≡ 0)

-- what was read up to a phase
abbrev pub IsRead : Phase → List ℕ → Bool → ℕ → ℕ → Bool → ℕ → Type 0
IsRead Start text minus digits behind down power = (text ≡ []) × (minus ≡ false) × (digits ≡ 0) × (behind ≡ 0) × NoPower down power
IsRead Signed text minus digits behind down power = IsSign text minus × (digits ≡ 0) × (behind ≡ 0) × NoPower down power
IsRead Whole text minus digits behind down power = IsWhole text minus digits behind × NoPower down power
IsRead LonePoint text minus digits behind down power = IsPointed text minus digits behind 0 × NoPower down power
IsRead Fraction text minus digits behind down power = IsPointed text minus digits behind 1 × NoPower down power
IsRead Marked text minus digits behind down power = IsMarked text minus digits behind down power 0
IsRead MarkSigned text minus digits behind down power = IsMarked text minus digits behind down power 1
IsRead Power text minus digits behind down power = IsMarked text minus digits behind down power 2

-- what a scan has read
pub record Holds (text : List ℕ) (s : Scan) : Type 0 where
  pub digits : ℕ
  pub power : ℕ
  pub keeps : Keeps digits s.number.top s.number.dropped s.number.lost
  pub power_is : s.power ≡ min power (10 ^ 30)
  pub read : IsRead s.phase text s.minus digits s.behind s.down power

-- so many digits at most stand behind the point, and are dropped; the power and the digits that are kept are in their ranges
pub record IsShort (most : ℕ) (s : Scan) : Type 0 where
  pub behind : s.behind ≤ most
  pub dropped : s.number.dropped ≤ most
  pub top : s.number.top < 10 ^ 38
  pub power : s.power ≤ 10 ^ 30

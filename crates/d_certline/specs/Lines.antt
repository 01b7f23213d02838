-- The lines of a certificate and their texts. The form is our own rule.
use Rattle.std.specs.Prelude.{ℕ, ℤ, pos, List, [], ◌∷◌, ◌++◌, codes, map}
use Rattle.std.specs.List.{flat_map}
use Rattle.d_num.specs.declared.pot.Pot.{Pot}
use Rattle.d_num.specs.declared.pot.Pot.TheVariants.{To, NoWay}
use Rattle.d_certline.specs.declared.kind.Kind.{Kind}
use Rattle.d_certline.specs.declared.kind.Kind.TheVariants.{Least, Gap, Nothing}
use Rattle.d_certline.specs.Wholes.{whole, padded}

-- a line, by what it says; whether its numbers are in range is another matter
pub data Line : Type 0 where
  version : Line
  label : List ℕ → Line
  month : ℕ → ℕ → Line
  minutes : ℤ → Line
  intervals : ℤ → Line
  levels : ℤ → ℤ → ℤ → ℤ → Line
  modes : ℤ → Line
  groups : ℤ → Line
  tiered : ℤ → Line
  verdict : Kind → Line
  day : ℕ → List ℤ → Line
  bill : ℤ → Line
  lower : ℤ → Line
  total : ℤ → ℤ → Line
  peak : ℤ → ℤ → Line
  leaf : Line
  slopes : List ℤ → Line
  layer : ℕ → List Pot → Line
  finish : Line

-- a number, or an x where there is no way
unfoldable pub pot_text : Pot → List ℕ
pot_text NoWay = 120 ∷ []
pot_text (To z) = whole z

-- the same behind a space
abbrev pub spaced : Pot → List ℕ
spaced p = 32 ∷ pot_text p

-- how a claim is called
unfoldable pub kind_text : Kind → List ℕ
kind_text Least = codes "least"
kind_text Gap = codes "gap"
kind_text Nothing = codes "none"

-- what stands in front of a line's numbers
unfoldable pub word : Line → List ℕ
word version = codes "dispatch-certificate 1"
word (label text) = codes "label " ++ text
word (month year number) = codes "month " ++ (padded 4 year ++ 45 ∷ padded 2 number)
word (minutes m) = codes "minutes"
word (intervals n) = codes "intervals"
word (levels floor capacity start least) = codes "levels"
word (modes n) = codes "modes"
word (groups n) = codes "groups"
word (tiered n) = codes "tiered"
word (verdict kind) = codes "verdict " ++ kind_text kind
word (day d numbers) = codes "day"
word (bill money) = codes "bill"
word (lower money) = codes "lower"
word (total index at) = codes "split total"
word (peak group at) = codes "split peak"
word leaf = codes "leaf"
word (slopes rates) = codes "slopes"
word (layer t pots) = codes "at"
word finish = codes "end"

-- the numbers of a line, each of which stands behind a space
unfoldable pub parts : Line → List Pot
parts version = []
parts (label text) = []
parts (month year number) = []
parts (minutes m) = To m ∷ []
parts (intervals n) = To n ∷ []
parts (levels floor capacity start least) = To floor ∷ To capacity ∷ To start ∷ To least ∷ []
parts (modes n) = To n ∷ []
parts (groups n) = To n ∷ []
parts (tiered n) = To n ∷ []
parts (verdict kind) = []
parts (day d numbers) = To (pos d) ∷ map (λ z. To z) numbers
parts (bill money) = To money ∷ []
parts (lower money) = To money ∷ []
parts (total index at) = To index ∷ To at ∷ []
parts (peak group at) = To group ∷ To at ∷ []
parts leaf = []
parts (slopes rates) = map (λ z. To z) rates
parts (layer t pots) = To (pos t) ∷ pots
parts finish = []

-- the text of a line without its line feed
unfoldable pub line_text : Line → List ℕ
line_text l = word l ++ flat_map spaced (parts l)

-- the text of lines, each of which ends with a line feed
unfoldable pub text_of : List Line → List ℕ
text_of [] = []
text_of (l ∷ ls) = line_text l ++ 10 ∷ text_of ls

-- The texts of numbers.
use Rattle.std.proofs.Common.{◌≡◌, ◌∙◌, ◌<◌, ◌≤◌, ◌+◌, ◌-◌, ◌*◌, ◌^◌, ◌/◌, ◌%◌, ℕ, zero, suc, ℤ, pos, negsuc, List, [], ◌∷◌, ◌++◌, length, map, replicate, get_or, arith, refl, sym, ap, append_assoc}
use Rattle.std.specs.Prelude.{unsigned_abs}
use Rattle.std.specs.List.{AllByRecursion}
use Rattle.std.specs.Int.Digits.{digits_of, AllBelowBase, number_from_digits_after}
use Rattle.std.specs.Fmt as fmt
use Rattle.std.proofs.lemmas.List.{append-nil, map_push, length-map, length-append, length-replicate}
use Rattle.std.proofs.lemmas.Int.Digits.{digits_of_step, length-digits_of-le, all_below_base_digits_of, first_digits_of, number_digits_of, number_lt}
use Rattle.std.proofs.lemmas.Fmt.{decimal_by_steps_wide}
use Rattle.std.proofs.Math.Nat.{pow-le-pow_right}
use Rattle.d_certline.specs.Wholes.{decimal, natural, whole, padded}

-- a byte is a digit
abbrev pub IsDigit : ℕ → Type 0
IsDigit byte = (48 ≤ byte) × (byte ≤ 57)

-- all bytes are digits
abbrev pub AreDigits : List ℕ → Type 0
AreDigits bytes = AllByRecursion IsDigit bytes

-- what digits write
abbrev value_after : ℕ → List ℕ → ℕ
value_after v [] = v
value_after v (byte ∷ bytes) = value_after (v * 10 + (byte - 48)) bytes

-- one more digit behind a number
pub decimal_step : (v d : ℕ) → d < 10 → 0 < v * 10 + d → decimal (v * 10 + d) ≡ decimal v ++ (48 + d) ∷ []
unfolding decimal
decimal_step v d below some =
    let front : (v * 10 + d) / 10 ≡ v = omega arith in
    let last : (v * 10 + d) % 10 ≡ d = omega arith in
    let step : digits_of 10 (v * 10 + d) ≡ digits_of 10 v ++ d ∷ [] = digits_of_step 10 (v * 10 + d) (omega arith) some ∙ ap (λ n. digits_of 10 n ++ (v * 10 + d) % 10 ∷ []) front ∙ ap (λ n. digits_of 10 v ++ n ∷ []) last in
    ap (map (λ digit. 48 + digit)) step ∙ map_push (λ digit. 48 + digit) (digits_of 10 v) d

decimal_none : decimal 0 ≡ []
unfolding decimal
decimal_none = refl

-- one digit
pub decimal_one : (d : ℕ) → 0 < d → d < 10 → decimal d ≡ (48 + d) ∷ []
decimal_one d some below =
    let step : decimal (0 * 10 + d) ≡ decimal 0 ++ (48 + d) ∷ [] = decimal_step 0 d below (omega arith) in
    let same : 0 * 10 + d ≡ d = omega arith in
    sym (ap decimal same) ∙ step ∙ ap (λ ds. ds ++ (48 + d) ∷ []) decimal_none

-- a number below a power has at most as many digits
pub decimal_le : (k n : ℕ) → n < 10 ^ k → length (decimal n) ≤ k
unfolding decimal
decimal_le k n less = omega (arith, length-map (digits_of 10 n) (λ digit. 48 + digit), length-digits_of-le 10 k n (omega arith) less)

-- and the other way round
pub decimal_lt : (k n : ℕ) → length (decimal n) ≤ k → n < 10 ^ k
unfolding decimal
decimal_lt k n short =
    let many = length-map (digits_of 10 n) (λ digit. 48 + digit) in
    let powers : 10 ^ length (digits_of 10 n) ≤ 10 ^ k = pow-le-pow_right {n = 10} (omega arith) (omega arith) in
    omega (arith, number_digits_of 10 n (omega arith), number_lt 10 (digits_of 10 n) (all_below_base_digits_of 10 n (omega arith)))

append_is : (a b rest : List ℕ) (byte : ℕ) → a ++ byte ∷ rest ≡ (a ++ byte ∷ []) ++ rest
append_is a b rest byte = sym (append_assoc a (byte ∷ []) rest)

-- digits behind a number write a number
more_digits : (v : ℕ) (bytes : List ℕ) → 0 < v → AreDigits bytes → (n : ℕ) × (v ≤ n) × (decimal v ++ bytes ≡ decimal n)
more_digits v [] some all = (v, omega arith, append-nil (decimal v))
more_digits v (byte ∷ bytes) some all =
    let same : 48 + (byte - 48) ≡ byte = omega (arith, all.0.0) in
    let step : decimal (v * 10 + (byte - 48)) ≡ decimal v ++ (48 + (byte - 48)) ∷ [] = decimal_step v (byte - 48) (omega (arith, all.0.1)) (omega arith) in
    let next : decimal (v * 10 + (byte - 48)) ≡ decimal v ++ byte ∷ [] = step ∙ ap (λ b. decimal v ++ b ∷ []) same in
    let rest = more_digits (v * 10 + (byte - 48)) bytes (omega arith) all.1 in
    (rest.0, omega (arith, rest.1), append_is (decimal v) [] bytes byte ∙ ap (λ front. front ++ bytes) (sym next) ∙ rest.2)

-- digits of which the first isn't 0 write a number
pub decimal_from : (byte : ℕ) (bytes : List ℕ) → AreDigits (byte ∷ bytes) → 49 ≤ byte → (n : ℕ) × (0 < n) × (byte ∷ bytes ≡ decimal n)
decimal_from byte bytes all some =
    let rest = more_digits (byte - 48) bytes (omega arith) all.1 in
    let same : 48 + (byte - 48) ≡ byte = omega arith in
    let one : decimal (byte - 48) ≡ byte ∷ [] = decimal_one (byte - 48) (omega arith) (omega (arith, all.0.1)) ∙ ap (λ b. b ∷ []) same in
    let front : byte ∷ bytes ≡ decimal (byte - 48) ++ bytes = ap (λ (f : List ℕ). f ++ bytes) (sym one) in
    (rest.0, omega (arith, rest.1), front ∙ rest.2)

-- the bytes of digits are digits
bytes_are : (ds : List ℕ) → AllBelowBase 10 ds → AreDigits (map (λ digit. 48 + digit) ds)
bytes_are [] all = tt
bytes_are (d ∷ ds) all = ((omega arith, omega (arith, all.0)), bytes_are ds all.1)

pub decimal_digits : (n : ℕ) → AreDigits (decimal n)
unfolding decimal
decimal_digits n = bytes_are (digits_of 10 n) (all_below_base_digits_of 10 n (omega arith))

pub natural_digits : (n : ℕ) → AreDigits (natural n)
unfolding natural
natural_digits zero = ((omega arith, omega arith), tt)
natural_digits (suc n) = decimal_digits (suc n)

-- the first digit of a number isn't 0
first_of : (ds : List ℕ) → AllBelowBase 10 ds → 0 < get_or ds 0 0 → (byte : ℕ) × (bytes : List ℕ) × (map (λ digit. 48 + digit) ds ≡ byte ∷ bytes) × (49 ≤ byte) × (byte ≤ 57)
first_of [] all some = absurd (omega arith)
first_of (d ∷ ds) all some = (48 + d, map (λ digit. 48 + digit) ds, refl, omega arith, omega (arith, all.0))

pub decimal_first : (n : ℕ) → 0 < n → (byte : ℕ) × (bytes : List ℕ) × (decimal n ≡ byte ∷ bytes) × (49 ≤ byte) × (byte ≤ 57)
unfolding decimal
decimal_first n some = first_of (digits_of 10 n) (all_below_base_digits_of 10 n (omega arith)) (first_digits_of 10 n (omega arith) some)

-- what digits write is the number
value_digits : (v : ℕ) (ds : List ℕ) → value_after v (map (λ digit. 48 + digit) ds) ≡ number_from_digits_after 10 v ds
value_digits v [] = refl
value_digits v (d ∷ ds) = let same : 48 + d - 48 ≡ d = omega arith in ap (λ k. value_after (v * 10 + k) (map (λ digit. 48 + digit) ds)) same ∙ value_digits (v * 10 + d) ds

value_decimal : (n : ℕ) → value_after 0 (decimal n) ≡ n
unfolding decimal
value_decimal n = value_digits 0 (digits_of 10 n) ∙ number_digits_of 10 n (omega arith)

value_natural : (n : ℕ) → value_after 0 (natural n) ≡ n
unfolding natural
value_natural zero = refl
value_natural (suc n) = value_decimal (suc n)

value_padded : (k n : ℕ) → value_after 0 (replicate k 48 ++ natural n) ≡ n
value_padded zero n = value_natural n
value_padded (suc k) n = value_padded k n

-- a text is that of one number at most
pub decimal_same : (m n : ℕ) → decimal m ≡ decimal n → m ≡ n
decimal_same m n e = sym (value_decimal m) ∙ ap (value_after 0) e ∙ value_decimal n

pub natural_one : (m n : ℕ) → natural m ≡ natural n → m ≡ n
natural_one m n e = sym (value_natural m) ∙ ap (value_after 0) e ∙ value_natural n

pub padded_one : (width m n : ℕ) → padded width m ≡ padded width n → m ≡ n
unfolding padded
padded_one width m n e = sym (value_padded (width - length (natural m)) m) ∙ ap (value_after 0) e ∙ value_padded (width - length (natural n)) n

-- digits aren't a minus
minus_other : (bytes rest : List ℕ) → AreDigits bytes → bytes ≡ 45 ∷ rest → ⊥
minus_other [] rest all e = cc
minus_other (byte ∷ bytes) rest all e = let same : byte ≡ 45 = cc in omega (arith, all.0.0)

tails : (a b : ℕ) (s t : List ℕ) → a ∷ s ≡ b ∷ t → s ≡ t
tails a b s t e = cc

pub whole_one : (y z : ℤ) → whole y ≡ whole z → y ≡ z
unfolding whole
whole_one (pos m) (pos n) e = ap pos (natural_one m n e)
whole_one (pos m) (negsuc n) e = absurd (minus_other (natural m) (decimal (suc n)) (natural_digits m) e)
whole_one (negsuc m) (pos n) e = absurd (minus_other (natural n) (decimal (suc m)) (natural_digits n) (sym e))
whole_one (negsuc m) (negsuc n) e = let same : suc m ≡ suc n = decimal_same (suc m) (suc n) (tails 45 45 (decimal (suc m)) (decimal (suc n)) e) in ap negsuc (omega arith)

-- the bytes are above that of a space
abbrev pub AreClean : List ℕ → Type 0
AreClean bytes = AllByRecursion (λ byte. 33 ≤ byte) bytes

digits_clean : (bytes : List ℕ) → AreDigits bytes → AreClean bytes
digits_clean [] all = tt
digits_clean (byte ∷ bytes) all = (omega (arith, all.0.0), digits_clean bytes all.1)

pub whole_clean : (z : ℤ) → AreClean (whole z)
unfolding whole
whole_clean (pos n) = digits_clean (natural n) (natural_digits n)
whole_clean (negsuc n) = (omega arith, digits_clean (decimal (suc n)) (decimal_digits (suc n)))

-- a number has a byte, and so many at most
pub natural_some : (n : ℕ) → 0 < length (natural n)
unfolding natural
natural_some zero = omega arith
natural_some (suc n) =
    let first = decimal_first (suc n) (omega arith) in
    let long : length (decimal (suc n)) ≡ length (first.0 ∷ first.1) = ap length first.2 in
    omega arith

pub whole_some : (z : ℤ) → 0 < length (whole z)
unfolding whole
whole_some (pos n) = natural_some n
whole_some (negsuc n) = omega arith

pub natural_le : (k n : ℕ) → 0 < k → n < 10 ^ k → length (natural n) ≤ k
unfolding natural
natural_le k zero some less = omega arith
natural_le k (suc n) some less = decimal_le k (suc n) less

pub whole_le : (k : ℕ) (z : ℤ) → 0 < k → unsigned_abs z < 10 ^ k → length (whole z) ≤ k + 1
unfolding whole
whole_le k (pos n) some less = omega (arith, natural_le k n some less)
whole_le k (negsuc n) some less = omega (arith, decimal_le k (suc n) less)

-- padded numbers
padded_digits_of : (k : ℕ) (bytes : List ℕ) → AreDigits bytes → AreDigits (replicate k 48 ++ bytes)
padded_digits_of zero bytes all = all
padded_digits_of (suc k) bytes all = ((omega arith, omega arith), padded_digits_of k bytes all)

pub padded_digits : (width n : ℕ) → AreDigits (padded width n)
unfolding padded
padded_digits width n = padded_digits_of (width - length (natural n)) (natural n) (natural_digits n)

pub padded_length : (width n : ℕ) → 0 < width → n < 10 ^ width → length (padded width n) ≡ width
unfolding padded
padded_length width n some less =
    omega (arith, natural_le width n some less, length-append (replicate (width - length (natural n)) 48) (natural n), length-replicate {A = ℕ} (width - length (natural n)) 48)

pub padded_four : (n : ℕ) → n ≤ 9999 → length (padded 4 n) ≡ 4
padded_four n less = padded_length 4 n (omega arith) (omega arith)

pub padded_two : (n : ℕ) → n ≤ 99 → length (padded 2 n) ≡ 2
padded_two n less = padded_length 2 n (omega arith) (omega arith)

-- the digits of a padded number say it
pub padded_value : (width n : ℕ) → value_after 0 (padded width n) ≡ n
unfolding padded
padded_value width n = value_padded (width - length (natural n)) n

-- a number of at most 64 digits is written as std writes it
decimal_more : (n : ℕ) → 10 ≤ n → decimal n ≡ decimal (n / 10) ++ (48 + n % 10) ∷ []
decimal_more n large =
    let whole_is : n / 10 * 10 + n % 10 ≡ n = omega arith in
    sym (ap decimal whole_is) ∙ decimal_step (n / 10) (n % 10) (omega arith) (omega arith)

natural_is : (n : ℕ) → 0 < n → natural n ≡ decimal n
unfolding natural
natural_is zero some = absurd (omega arith)
natural_is (suc n) some = refl

natural_small : (n : ℕ) → n < 10 → natural n ≡ (48 + n) ∷ []
unfolding natural
natural_small zero small = refl
natural_small (suc n) small = decimal_one (suc n) (omega arith) small

natural_more : (n : ℕ) (ds : List ℕ) → 10 ≤ n → natural (n / 10) ≡ ds → natural n ≡ ds ++ (48 + n % 10) ∷ []
natural_more n ds large e =
    natural_is n (omega arith) ∙ decimal_more n large ∙ ap (λ f. f ++ (48 + n % 10) ∷ []) (sym (natural_is (n / 10) (omega arith)) ∙ e)

pub natural_printed : (n : ℕ) → n < 10 ^ 64 → natural n ≡ fmt.decimal n
natural_printed n small = decimal_by_steps_wide (λ n ds. natural n ≡ ds) natural_small natural_more n small

pub whole_printed : (z : ℤ) → unsigned_abs z < 10 ^ 64 → whole z ≡ fmt.signed_decimal z
unfolding whole
whole_printed (pos n) small = natural_printed n small
whole_printed (negsuc n) small = ap (λ ds. 45 ∷ ds) (sym (natural_is (suc n) (omega arith)) ∙ natural_printed (suc n) small)

-- Numbers of any size by their digits.
use Rattle.std.proofs.Common.{◌≡◌, ◌∙◌, ◌↔◌, IsTrue, nat_lt, ◌<◌, ◌≤◌, ◌+◌, ◌*◌, ◌^◌, ℕ, zero, suc, true, List, [], ◌∷◌, length, map, take, get_or, All, arith, refl, sym, ap, inl, inr, subst, decimal}
use Rattle.std.proofs.lemmas.Bool.{cases_lt}
use Rattle.std.proofs.lemmas.Bool.Decides.{nat_tests}
use Rattle.std.proofs.lemmas.Fmt.{decimal_digit, decimal-digits_of}
use Rattle.std.proofs.lemmas.Nat.{mul-le}
use Rattle.std.proofs.lemmas.Int.Digits.{number_digits_of, all_below_base_digits_of, first_digits_of, digits_value_is}
use Rattle.std.proofs.Math.Nat.{pow-zero, pow-suc}
use Rattle.std.specs.Char.{digit_value}
use Rattle.std.specs.Int.Digits.{digits_of, AllBelowBase, number_from_digits}
use Rattle.std.specs.Str.Parse.{digits_value, digits_value_after}
use Rattle.d_columns.specs.Names.{is_digit, IsTierNumber, number_text}
use Rattle.d_columns.proofs.NumberFacts.{digit_range}
use Rattle.d_columns.proofs.TierFacts.{digit_is}

-- all of a text are digits
abbrev pub AreDigits : List ℕ → Type 0
AreDigits digits = All (λ byte. is_digit byte ≡ true) digits

-- what is left of digits
rest_digits : (byte : ℕ) (digits : List ℕ) → AreDigits (byte ∷ digits) → AreDigits digits
rest_digits byte digits all k d within = all (suc k) d (omega arith)

first_digit : (byte : ℕ) (digits : List ℕ) → AreDigits (byte ∷ digits) → is_digit byte ≡ true
first_digit byte digits all = all 0 0 (omega arith)

-- a digit's value is below 10
digit_below : (byte : ℕ) → is_digit byte ≡ true → digit_value byte < 10
digit_below byte is = omega (arith, digit_is byte is, digit_range byte is)

-- as many digits behind a smaller number write a smaller number
pub after_less : (m n : ℕ) (xs ys : List ℕ) → AreDigits xs → AreDigits ys → length xs ≡ length ys → m < n
    → digits_value_after 10 m xs < digits_value_after 10 n ys
after_less m n [] [] dx dy same less = less
after_less m n [] (y ∷ ys) dx dy same less = absurd (omega arith)
after_less m n (x ∷ xs) [] dx dy same less = absurd (omega arith)
after_less m n (x ∷ xs) (y ∷ ys) dx dy same less =
    let below = digit_below x (first_digit x xs dx) in
    after_less (m * 10 + digit_value x) (n * 10 + digit_value y) xs ys (rest_digits x xs dx) (rest_digits y ys dy) (omega arith) (omega arith)

-- digits behind a number write more than fewer digits alone
pub shorter_less : (n : ℕ) (xs ys : List ℕ) → AreDigits xs → AreDigits ys → length xs ≤ length ys → 0 < n
    → digits_value_after 10 0 xs < digits_value_after 10 n ys
shorter_less n xs [] dx dy short some = after_less 0 n xs [] dx dy (omega arith) some
shorter_less n xs (y ∷ ys) dx dy short some = elim (cases_lt (length xs) (suc (length ys))) [
  | inl fewer ↦ shorter_less (n * 10 + digit_value y) xs ys dx (rest_digits y ys dy) (omega arith) (omega arith)
  | inr as_many ↦ after_less 0 n xs (y ∷ ys) dx dy (omega arith) some
]

-- texts of as many digits that first differ at a place are in the order of what stands there
pub place_less : (m k : ℕ) (xs ys : List ℕ) → AreDigits xs → AreDigits ys → length xs ≡ length ys → k < length xs → take k xs ≡ take k ys
    → get_or xs k 0 < get_or ys k 0 → digits_value_after 10 m xs < digits_value_after 10 m ys
place_less m k [] ys dx dy long within same less = absurd (omega arith)
place_less m k (x ∷ xs) [] dx dy long within same less = absurd (omega arith)
place_less m zero (x ∷ xs) (y ∷ ys) dx dy long within same less =
    let x_is = digit_is x (first_digit x xs dx) in
    let y_is = digit_is y (first_digit y ys dy) in
    after_less (m * 10 + digit_value x) (m * 10 + digit_value y) xs ys (rest_digits x xs dx) (rest_digits y ys dy) (omega arith) (omega arith)
place_less m (suc k) (x ∷ xs) (y ∷ ys) dx dy long within same less =
    let whole : x ∷ take k xs ≡ y ∷ take k ys = same in
    let first : x ≡ y = cc in
    let rest : take k xs ≡ take k ys = cc in
    let later = place_less (m * 10 + digit_value x) k xs ys (rest_digits x xs dx) (rest_digits y ys dy) (omega arith) (omega arith) rest less in
    subst (λ (d : ℕ). digits_value_after 10 (m * 10 + digit_value x) xs < digits_value_after 10 (m * 10 + digit_value d) ys) first later

-- the first digit of a number of several isn't 0
pub first_some : (byte other : ℕ) (digits : List ℕ) → IsTierNumber (byte ∷ other ∷ digits) → 0 < digit_value byte
first_some byte other digits number =
    let is = first_digit byte (other ∷ digits) number.all_digits in
    let plain : byte ≡ 48 → ⊥ = λ zero_front. let long = number.plain zero_front in omega arith in
    some byte (digit_is byte is) (digit_range byte is).0 plain
  where
    some : (byte : ℕ) → digit_value byte + 48 ≡ byte → 48 ≤ byte → (byte ≡ 48 → ⊥) → 0 < digit_value byte
    some byte is least other = omega arith

-- a number of fewer digits is smaller
pub fewer_less : (xs ys : List ℕ) → IsTierNumber xs → IsTierNumber ys → length xs < length ys → digits_value 10 xs < digits_value 10 ys
fewer_less xs [] xn yn fewer = absurd (omega arith)
fewer_less [] (y ∷ []) xn yn fewer = absurd (omega (arith, xn.some))
fewer_less (x ∷ xs) (y ∷ []) xn yn fewer = absurd (omega arith)
fewer_less xs (y ∷ z ∷ ys) xn yn fewer =
    let some = first_some y z ys yn in
    shorter_less (0 * 10 + digit_value y) xs (z ∷ ys) xn.all_digits (rest_digits y (z ∷ ys) yn.all_digits) (omega arith) (omega arith)

-- as many digits of the same value are the same
pub same_digits : (m n : ℕ) (xs ys : List ℕ) → AreDigits xs → AreDigits ys → length xs ≡ length ys
    → digits_value_after 10 m xs ≡ digits_value_after 10 n ys → (m ≡ n) × (xs ≡ ys)
same_digits m n [] [] dx dy long same = (same, refl)
same_digits m n [] (y ∷ ys) dx dy long same = absurd (omega arith)
same_digits m n (x ∷ xs) [] dx dy long same = absurd (omega arith)
same_digits m n (x ∷ xs) (y ∷ ys) dx dy long same =
    let x_is = digit_is x (first_digit x xs dx) in
    let y_is = digit_is y (first_digit y ys dy) in
    let x_below = digit_below x (first_digit x xs dx) in
    let y_below = digit_below y (first_digit y ys dy) in
    let later = same_digits (m * 10 + digit_value x) (n * 10 + digit_value y) xs ys (rest_digits x xs dx) (rest_digits y ys dy) (omega arith) same in
    let first : x ≡ y = omega arith in
    (omega arith, ap (λ d. d ∷ xs) first ∙ ap (λ ds. y ∷ ds) later.1)

-- numbers of the same value are written the same
pub number_once : (xs ys : List ℕ) → IsTierNumber xs → IsTierNumber ys → digits_value 10 xs ≡ digits_value 10 ys → xs ≡ ys
number_once xs ys xn yn same = elim (cases_lt (length xs) (length ys)) [
  | inl fewer ↦ absurd (omega (arith, fewer_less xs ys xn yn fewer))
  | inr more ↦ elim (cases_lt (length ys) (length xs)) [
    | inl fewer ↦ absurd (omega (arith, fewer_less ys xs yn xn fewer))
    | inr as_many ↦ (same_digits 0 0 xs ys xn.all_digits yn.all_digits (omega arith) same).1
  ]
]

-- the byte of a digit
digit_byte : (d : ℕ) → d < 10 → (is_digit (48 + d) ≡ true) × (digit_value (48 + d) ≡ d)
digit_byte d below =
    let is : is_digit (48 + d) ≡ true = grind (arith, nat_tests) in
    (is, omega (arith, digit_is (48 + d) is))

bytes_are : (ds : List ℕ) → AllBelowBase 10 ds → AreDigits (map (λ d. 48 + d) ds)
bytes_are [] all k e within = absurd (omega arith)
bytes_are (d ∷ ds) all zero e within = (digit_byte d all.0).0
bytes_are (d ∷ ds) all (suc k) e within = bytes_are ds all.1 k e (omega arith)

bytes_say : (ds : List ℕ) → AllBelowBase 10 ds → map digit_value (map (λ d. 48 + d) ds) ≡ ds
bytes_say [] all = refl
bytes_say (d ∷ ds) all = ap (λ e. e ∷ map digit_value (map (λ d. 48 + d) ds)) (digit_byte d all.0).1 ∙ ap (λ es. d ∷ es) (bytes_say ds all.1)

-- the text of a number has its value
pub text_value : (n : ℕ) → digits_value 10 (number_text n) ≡ n
unfolding number_text
text_value zero = refl
text_value (suc n) =
    digits_value_is 10 (map (λ d. 48 + d) (digits_of 10 (suc n)))
    ∙ ap (λ ds. number_from_digits 10 ds) (bytes_say (digits_of 10 (suc n)) (all_below_base_digits_of 10 (suc n) (omega arith)))
    ∙ number_digits_of 10 (suc n) (omega arith)

-- and is a number
number_bytes : (ds : List ℕ) → AllBelowBase 10 ds → 0 < get_or ds 0 0 → IsTierNumber (map (λ d. 48 + d) ds)
number_bytes [] all first = absurd (omega arith)
number_bytes (d ∷ ds) all first = record {
  some = omega arith;
  all_digits = bytes_are (d ∷ ds) all;
  plain = λ (zero_front : 48 + d ≡ 48). absurd (omega arith);
}

pub text_number : (n : ℕ) → IsTierNumber (number_text n)
unfolding number_text
text_number zero = record { some = omega arith; all_digits = bytes_are (0 ∷ []) (omega arith, tt); plain = λ zero_front. refl }
text_number (suc n) = number_bytes (digits_of 10 (suc n)) (all_below_base_digits_of 10 (suc n) (omega arith)) (first_digits_of 10 (suc n) (omega arith) (omega arith))

-- the text of a number's value is the number
pub text_of_value : (digits : List ℕ) → IsTierNumber digits → number_text (digits_value 10 digits) ≡ digits
text_of_value digits number =
    number_once (number_text (digits_value 10 digits)) digits (text_number (digits_value 10 digits)) number (text_value (digits_value 10 digits))

-- digits behind a number write less than as many zeros behind the next number
after_below : (n : ℕ) (xs : List ℕ) → AreDigits xs → digits_value_after 10 n xs < (n + 1) * 10 ^ length xs
after_below n [] all = omega (arith, pow-zero 10)
after_below n (x ∷ xs) all =
    let below = digit_below x (first_digit x xs all) in
    let later = after_below (n * 10 + digit_value x) xs (rest_digits x xs all) in
    let most : (n * 10 + digit_value x + 1) * 10 ^ length xs ≤ ((n + 1) * 10) * 10 ^ length xs = mul-le (n * 10 + digit_value x + 1) (10 ^ length xs) ((n + 1) * 10) (10 ^ length xs) (omega arith) (omega arith) in
    let power : 10 ^ suc (length xs) ≡ 10 ^ length xs * 10 = pow-suc 10 (length xs) in
    rw power (omega arith)

-- the text of a number has digits enough for it
pub text_size : (n : ℕ) → n < 10 ^ length (number_text n)
text_size n =
    let below = after_below 0 (number_text n) (text_number n).all_digits in
    omega (arith, text_value n)

-- a number of at most 64 bits is written so
pub text_is_decimal : (n : ℕ) → n < 2 ^ 64 → number_text n ≡ decimal n
unfolding number_text
text_is_decimal zero small = sym (decimal_digit 0 (omega arith))
text_is_decimal (suc n) small = sym (decimal-digits_of (suc n) (omega arith) small)

-- what the test of two numbers says
less_true : (a b : ℕ) → a < b → IsTrue (nat_lt a b)
less_true a b less = grind (arith, nat_tests)

less_false : (a b : ℕ) → b ≤ a → IsTrue (nat_lt a b) → ⊥
less_false a b more test = grind (arith, nat_tests)

-- numbers of different lengths are in the order of their lengths
pub length_tells : (xs ys : List ℕ) → IsTierNumber xs → IsTierNumber ys → (length xs ≡ length ys → ⊥)
    → IsTrue (nat_lt (length xs) (length ys)) ↔ (digits_value 10 xs < digits_value 10 ys)
length_tells xs ys xn yn differs = elim (cases_lt (length xs) (length ys)) [
  | inl fewer ↦ (λ test. fewer_less xs ys xn yn fewer, λ less. less_true (length xs) (length ys) fewer)
  | inr more ↦
      let greater = fewer_less ys xs yn xn (omega arith) in
      (λ test. absurd (less_false (length xs) (length ys) more test), λ less. absurd (omega arith))
]

-- numbers of one length are in the order of the first digits that differ
pub place_tells : (xs ys : List ℕ) (k : ℕ) → IsTierNumber xs → IsTierNumber ys → length xs ≡ length ys → k < length xs → take k xs ≡ take k ys
    → (get_or xs k 0 ≡ get_or ys k 0 → ⊥) → IsTrue (nat_lt (get_or xs k 0) (get_or ys k 0)) ↔ (digits_value 10 xs < digits_value 10 ys)
place_tells xs ys k xn yn long within same differs = elim (cases_lt (get_or xs k 0) (get_or ys k 0)) [
  | inl below ↦
      let less = place_less 0 k xs ys xn.all_digits yn.all_digits long within same below in
      (λ test. less, λ less. less_true (get_or xs k 0) (get_or ys k 0) below)
  | inr above ↦
      let greater = place_less 0 k ys xs yn.all_digits xn.all_digits (sym long) (omega arith) (sym same) (omega arith) in
      (λ test. absurd (less_false (get_or xs k 0) (get_or ys k 0) above test), λ less. absurd (omega arith))
]

-- The number that a text of digits says, read from its front.
use Rattle.std.proofs.Common.{◌≡◌, ◌∙◌, ℕ, ◌+◌, ◌-◌, ◌*◌, ◌≤◌, ◌<◌, nat_lt, Bool, true, false, ◌&&◌, List, [], ◌∷◌, length, drop, get_or, Option, None, Some, option_and_then, cond, refl, sym, ap, arith, inl, inr}
use Rattle.std.specs.List.{list_all}
use Rattle.std.specs.Char.{digit_value}
use Rattle.std.specs.Str.Parse.{digits_value_after}
use Rattle.std.proofs.lemmas.Bool.{cases_Bool}
use Rattle.std.proofs.lemmas.Bool.Decides.{nat_tests}
use Rattle.std.proofs.lemmas.List.{drop_more}
use Rattle.std.proofs.lemmas.Str.{digit_value_digit}
use Rattle.std.proofs.Math.ListN.{drop_of_length-le}
use Rattle.d_urdb.specs.FlatMonths.{period_in}
use Rattle.d_columns.specs.Names.{is_digit}
use Rattle.d_urdb.specs.PeriodDigits.{with_digit}

-- the value of a digit
digit_is : (byte : ℕ) → is_digit byte ≡ true → digit_value byte + 48 ≡ byte
digit_is byte is = digit_value_digit byte (let low : 48 ≤ byte = grind (arith, nat_tests) in let high : byte ≤ 57 = grind (arith, nat_tests) in (low, high))

-- the period that a text says behind a number
abbrev pub period_behind : ℕ → List ℕ → Option ℕ
period_behind number text =
    cond (list_all is_digit text && nat_lt (digits_value_after 10 number text) 36) (Some (digits_value_after 10 number text)) None

-- a text says a period from its front
pub from_front : (text : List ℕ) → period_in text ≡ period_behind 0 text
unfolding period_in
from_front [] = refl
from_front (byte ∷ rest) = refl

-- nothing is left
pub at_end : (number : ℕ) → number ≤ 35 → period_behind number [] ≡ Some number
at_end number few = let small : nat_lt number 36 ≡ true = grind (arith, nat_tests) in rw small refl

-- digits behind a number make no smaller one
after_least : (number : ℕ) (text : List ℕ) → number ≤ digits_value_after 10 number text
after_least number [] = omega arith
after_least number (byte ∷ rest) = omega (arith, after_least (number * 10 + digit_value byte) rest)

no_second : {A : Type 0} (a b : Bool) (x : Option A) → b ≡ false → cond (a && b) x None ≡ None
no_second true b x fails = rw fails refl
no_second false b x fails = refl

past_last : (number : ℕ) (text : List ℕ) → 36 ≤ number → period_behind number text ≡ None
past_last number text much =
    let least = after_least number text in
    let big : nat_lt (digits_value_after 10 number text) 36 ≡ false = grind (arith, nat_tests) in
    no_second (list_all is_digit text) (nat_lt (digits_value_after 10 number text) 36) (Some (digits_value_after 10 number text)) big

-- a byte that is a digit or not
on_digit : (number byte : ℕ) (rest : List ℕ) → is_digit byte ≡ true → period_behind number (byte ∷ rest) ≡ period_behind (number * 10 + digit_value byte) rest
on_digit number byte rest is = rw is refl

on_other : (number byte : ℕ) (rest : List ℕ) → is_digit byte ≡ false → period_behind number (byte ∷ rest) ≡ None
on_other number byte rest other = rw other refl

with_small : (number byte : ℕ) → is_digit byte ≡ true → nat_lt (number * 10 + (byte - 48)) 36 ≡ true
    → with_digit number byte ≡ Some (number * 10 + (byte - 48))
with_small number byte is small = rw (is, small) refl

with_big : (number byte : ℕ) → is_digit byte ≡ true → nat_lt (number * 10 + (byte - 48)) 36 ≡ false → with_digit number byte ≡ None
with_big number byte is big = rw (is, big) refl

with_other : (number byte : ℕ) → is_digit byte ≡ false → with_digit number byte ≡ None
with_other number byte other = rw other refl

-- the period behind one more digit
one_byte : (number byte : ℕ) (rest : List ℕ)
    → period_behind number (byte ∷ rest) ≡ option_and_then (λ next. period_behind next rest) (with_digit number byte)
one_byte number byte rest = elim (cases_Bool (is_digit byte)) [
  | inl is ↦
      let same : number * 10 + digit_value byte ≡ number * 10 + (byte - 48) = omega (arith, digit_is byte is) in
      let here = on_digit number byte rest is ∙ ap (λ n. period_behind n rest) same in
      elim (cases_Bool (nat_lt (number * 10 + (byte - 48)) 36)) [
        | inl small ↦ here ∙ sym (ap (option_and_then (λ next. period_behind next rest)) (with_small number byte is small))
        | inr big ↦
            let much : 36 ≤ number * 10 + (byte - 48) = grind (arith, nat_tests) in
            here ∙ past_last (number * 10 + (byte - 48)) rest much
            ∙ sym (ap (option_and_then (λ next. period_behind next rest)) (with_big number byte is big))
      ]
  | inr other ↦ on_other number byte rest other ∙ sym (ap (option_and_then (λ next. period_behind next rest)) (with_other number byte other))
]

at_place : (text : List ℕ) (place number : ℕ) → place < length text
    → period_behind number (drop place text) ≡ option_and_then (λ next. period_behind next (drop (place + 1) text)) (with_digit number (get_or text place 0))
at_place text place number within =
    ap (period_behind number) (drop_more text place 0 within) ∙ one_byte number (get_or text place 0) (drop (place + 1) text)

-- one more byte of a text
pub byte_more : (text : List ℕ) (place number next : ℕ) → place < length text → period_in text ≡ period_behind number (drop place text)
    → with_digit number (get_or text place 0) ≡ Some next → period_in text ≡ period_behind next (drop (place + 1) text)
byte_more text place number next within before is =
    before ∙ at_place text place number within ∙ ap (option_and_then (λ n. period_behind n (drop (place + 1) text))) is

pub byte_stops : (text : List ℕ) (place number : ℕ) → place < length text → period_in text ≡ period_behind number (drop place text)
    → with_digit number (get_or text place 0) ≡ None → None ≡ period_in text
byte_stops text place number within before is =
    sym (before ∙ at_place text place number within ∙ ap (option_and_then (λ n. period_behind n (drop (place + 1) text))) is)

pub all_read : (text : List ℕ) (place number : ℕ) → length text ≤ place → number ≤ 35 → period_in text ≡ period_behind number (drop place text)
    → Some number ≡ period_in text
all_read text place number long few before = sym (before ∙ ap (period_behind number) (drop_of_length-le text long) ∙ at_end number few)

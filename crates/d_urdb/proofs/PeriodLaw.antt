-- A period in a list of months is written as one in a grid.
use Rattle.std.proofs.Common.{◌≡◌, ℕ, ◌<◌, ◌≤◌, Bool, true, false, ◌&&◌, nat_lt, List, [], ◌∷◌, None, Some, refl, sym, ap, arith, inl, inr}
use Rattle.std.proofs.lemmas.Bool.{cases_Bool}
use Rattle.std.proofs.lemmas.Bool.Decides.{nat_tests}
use Rattle.std.proofs.lemmas.Option.{none-some}
use Rattle.std.specs.Char.{digit_value}
use Rattle.std.specs.List.{list_all}
use Rattle.std.specs.Str.Parse.{AllDigits, digits_value}
use Rattle.d_columns.specs.Names.{is_digit}
use Rattle.d_urdb.specs.FlatMonths.{period_in, ReadsAsInGrids}

-- a byte is a digit where its value is below 10
digit_small : (byte : ℕ) → is_digit byte ≡ true → digit_value byte < 10
digit_small byte is = grind (arith, nat_tests)

small_digit : (byte : ℕ) → digit_value byte < 10 → is_digit byte ≡ true
small_digit byte small = grind (arith, nat_tests)

both_true : (a b : Bool) → (a && b) ≡ true → (a ≡ true) × (b ≡ true)
both_true true b both = (refl, both)
both_true false b both = absurd cc

all_digits : (text : List ℕ) → list_all is_digit text ≡ true → AllDigits 10 text
all_digits [] all = tt
all_digits (byte ∷ rest) all = let parts = both_true (is_digit byte) (list_all is_digit rest) all in (digit_small byte parts.0, all_digits rest parts.1)

digits_all : (text : List ℕ) → AllDigits 10 text → list_all is_digit text ≡ true
digits_all [] all = refl
digits_all (byte ∷ rest) all = rw (small_digit byte all.0) (digits_all rest all.1)

within : (n : ℕ) → nat_lt n 36 ≡ true → n ≤ 35
within n is = grind (arith, nat_tests)

is_within : (n : ℕ) → n ≤ 35 → nat_lt n 36 ≡ true
is_within n few = grind (arith, nat_tests)

some_same : (a b : ℕ) → Some a ≡ Some b → a ≡ b
some_same a b same = cc

pub as_in_grids : ReadsAsInGrids
unfolding period_in
as_in_grids place [] number some = absurd (some refl)
as_in_grids place (byte ∷ rest) number some = (
  λ says. elim (cases_Bool (list_all is_digit text && nat_lt (digits_value 10 text) 36)) [
    | inl is ↦
        let parts = both_true (list_all is_digit text) (nat_lt (digits_value 10 text) 36) is in
        let found : Some (digits_value 10 text) ≡ Some number = rw is at says in
        let same = some_same (digits_value 10 text) number found in
        let few = within (digits_value 10 text) parts.1 in
        record { digits = (omega arith, all_digits text parts.0); number_is = sym same; most = omega (arith, same, few) }
    | inr other ↦ let none : None ≡ Some number = rw other at says in absurd (none-some number none)
  ],
  λ is.
      let few : digits_value 10 text ≤ 35 = omega (arith, is.number_is, is.most) in
      rw (digits_all text is.digits.1, is_within (digits_value 10 text) few) (ap (λ n. Some n) (sym is.number_is)),
)
  where
    text : List ℕ
    text = byte ∷ rest

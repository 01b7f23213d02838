-- Numbers at the front of a text.
use Rattle.std.proofs.Common.{◌≡◌, ◌∙◌, ◌↔◌, ◌<◌, ◌≤◌, ◌+◌, ℕ, suc, true, false, List, [], ◌∷◌, ◌++◌, length, take, drop, subst, All, arith, sym, ap, refl, inl, inr}
use Rattle.std.proofs.lemmas.Bool.{cases_Bool}
use Rattle.std.proofs.lemmas.Bool.Decides.{nat_tests}
use Rattle.std.proofs.Math.Seq.{take-append_seam, drop-append_seam}
use Rattle.std.proofs.lemmas.List.{take-append-drop, drop-map, length-take, get_or-take}
use Rattle.std.proofs.lemmas.List.Sums.{prefix_len_passes}
use Rattle.std.specs.List.{prefix_len}
use Rattle.std.specs.Str.{str_to_ascii_lowercase}
use Rattle.std.specs.Char.{to_ascii_lowercase}
use Rattle.d_columns.specs.Names.{is_digit, IsTierNumber}
use Rattle.d_columns.specs.Reading.{IsNumberThen}
use Rattle.d_columns.proofs.TextFacts.{is_pair, first_same, second_same, both_same}

-- a digit is a byte from 48 to 57
pub digit_range : (byte : ℕ) → is_digit byte ≡ true → (48 ≤ byte) × (byte ≤ 57)
digit_range byte is = grind (arith, nat_tests)

-- a digit has no small letter
pub small_digit : (byte : ℕ) → is_digit (to_ascii_lowercase byte) ≡ is_digit byte
small_digit byte = grind (arith, nat_tests)

pub digit_stays : (byte : ℕ) → is_digit byte ≡ true → to_ascii_lowercase byte ≡ byte
digit_stays byte is = grind (arith, nat_tests)

-- so the digits at the front stay
pub small_prefix : (text : List ℕ) → prefix_len is_digit (str_to_ascii_lowercase text) ≡ prefix_len is_digit text
small_prefix [] = refl
small_prefix (byte ∷ rest) = rw (small_digit byte, small_prefix rest) refl

-- one digit more
more_front : (byte : ℕ) (rest : List ℕ) → is_digit byte ≡ true → prefix_len is_digit (byte ∷ rest) ≡ suc (prefix_len is_digit rest)
more_front byte rest is = let next : 1 + prefix_len is_digit rest ≡ suc (prefix_len is_digit rest) = omega arith in rw is next

no_front : (byte : ℕ) (rest : List ℕ) → is_digit byte ≡ false → prefix_len is_digit (byte ∷ rest) ≡ 0
no_front byte rest other = rw other refl

pub small_front : (text : List ℕ) → take (prefix_len is_digit text) (str_to_ascii_lowercase text) ≡ take (prefix_len is_digit text) text
small_front [] = refl
small_front (byte ∷ rest) = elim (cases_Bool (is_digit byte)) [
  | inl is ↦
      let first : to_ascii_lowercase byte ∷ take (prefix_len is_digit rest) (str_to_ascii_lowercase rest) ≡ byte ∷ take (prefix_len is_digit rest) rest =
      ap (λ n. n ∷ take (prefix_len is_digit rest) (str_to_ascii_lowercase rest)) (digit_stays byte is) ∙ ap (λ xs. byte ∷ xs) (small_front rest) in
      subst (λ (n : ℕ). take n (str_to_ascii_lowercase (byte ∷ rest)) ≡ take n (byte ∷ rest)) (sym (more_front byte rest is)) first
  | inr other ↦ subst (λ (n : ℕ). take n (str_to_ascii_lowercase (byte ∷ rest)) ≡ take n (byte ∷ rest)) (sym (no_front byte rest other)) refl
]

-- the digits at the front are digits
pub front_digits : (text : List ℕ) → All (λ byte. is_digit byte ≡ true) (take (prefix_len is_digit text) text)
front_digits text k d within =
    let short : k < prefix_len is_digit text = omega (arith, length-take (prefix_len is_digit text) text) in
    rw (get_or-take (prefix_len is_digit text) text k d short) (prefix_len_passes is_digit text k d short)

-- behind them stands no digit
pub rest_plain : (text : List ℕ) → prefix_len is_digit (drop (prefix_len is_digit text) text) ≡ 0
rest_plain [] = refl
rest_plain (byte ∷ rest) = elim (cases_Bool (is_digit byte)) [
  | inl is ↦ subst (λ (n : ℕ). prefix_len is_digit (drop n (byte ∷ rest)) ≡ 0) (sym (more_front byte rest is)) (rest_plain rest)
  | inr other ↦ subst (λ (n : ℕ). prefix_len is_digit (drop n (byte ∷ rest)) ≡ 0) (sym (no_front byte rest other)) (no_front byte rest other)
]

-- digits and a rest with no digit at its front part in one way
pub digits_end : (digits rest : List ℕ) → All (λ byte. is_digit byte ≡ true) digits → prefix_len is_digit rest ≡ 0
    → prefix_len is_digit (digits ++ rest) ≡ length digits
digits_end [] rest all ends = ends
digits_end (byte ∷ digits) rest all ends =
    let first : is_digit byte ≡ true = all 0 0 (omega arith) in
    let later = digits_end digits rest (λ k d within. all (suc k) d (omega arith)) ends in
    more_front byte (digits ++ rest) first ∙ ap (λ n. suc n) later

-- a number that is found
pub number_found : (text : List ℕ) → IsTierNumber (take (prefix_len is_digit text) text) → (digits rest : List ℕ)
    → (is_pair (take (prefix_len is_digit text) text) (str_to_ascii_lowercase (drop (prefix_len is_digit text) text)) ≡ is_pair digits rest)
    ↔ IsNumberThen (str_to_ascii_lowercase text) digits rest
number_found text number digits rest =
    let small = str_to_ascii_lowercase text in
    let end = prefix_len is_digit text in
    let front : take end small ≡ take end text = small_front text in
    let behind : drop end small ≡ str_to_ascii_lowercase (drop end text) = drop-map to_ascii_lowercase end text in (
      λ found.
          let is = first_same (take end text) digits (str_to_ascii_lowercase (drop end text)) rest found in
          let then = second_same (take end text) digits (str_to_ascii_lowercase (drop end text)) rest found in
          record {
            number = rw (← is) number;
            ends = rw (← then) (small_prefix (drop end text) ∙ rest_plain text);
            form = sym (take-append-drop end small) ∙ ap (λ xs. xs ++ drop end small) (front ∙ is) ∙ ap (λ xs. digits ++ xs) (behind ∙ then);
          },
      λ form.
          let long : end ≡ length digits = sym (small_prefix text) ∙ ap (λ xs. prefix_len is_digit xs) form.form ∙ digits_end digits rest form.number.all_digits form.ends in
          let is : take end text ≡ digits = sym front ∙ ap (λ n. take n small) long ∙ ap (λ xs. take (length digits) xs) form.form ∙ take-append_seam digits rest in
          let then : str_to_ascii_lowercase (drop end text) ≡ rest = sym behind ∙ ap (λ n. drop n small) long ∙ ap (λ xs. drop (length digits) xs) form.form ∙ drop-append_seam digits rest in
          both_same (take end text) digits (str_to_ascii_lowercase (drop end text)) rest is then,
    )

-- a text with no number at its front
pub number_missing : (text : List ℕ) → (IsTierNumber (take (prefix_len is_digit text) text) → ⊥) → (digits rest : List ℕ)
    → IsNumberThen (str_to_ascii_lowercase text) digits rest → ⊥
number_missing text none digits rest form =
    let small = str_to_ascii_lowercase text in
    let end = prefix_len is_digit text in
    let long : end ≡ length digits = sym (small_prefix text) ∙ ap (λ xs. prefix_len is_digit xs) form.form ∙ digits_end digits rest form.number.all_digits form.ends in
    let is : take end text ≡ digits = sym (small_front text) ∙ ap (λ n. take n small) long ∙ ap (λ xs. take (length digits) xs) form.form ∙ take-append_seam digits rest in
    none (rw is form.number)

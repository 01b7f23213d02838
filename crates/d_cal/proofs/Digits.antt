-- The digits of numbers below 10000 with zeros in front.
use Rattle.std.proofs.Common.{◌≡◌, ◌⊎◌, inl, inr, ℕ, zero, suc, ◌+◌, ◌-◌, ◌/◌, ◌%◌, ◌^◌, ◌<◌, ◌≤◌, List, [], ◌∷◌, ◌++◌, length, length-append, append_assoc, replicate, ℤ, pos, ◌≤ℤ◌, unsigned_abs, refl, sym, ap, ◌∙◌, arith}
use Rattle.std.specs.Prelude.{slice_index_or}
use Rattle.std.proofs.lemmas.Int.{ints}
use Rattle.std.specs.Fmt.{decimal}
use Rattle.std.proofs.lemmas.Fmt.{decimal_digit, decimal_step}
use Rattle.std.proofs.lemmas.Bool.{cases_lt}
use Rattle.d_text.specs.Text.{zero_padded}

-- one more of the same may stand behind the others
one_behind : (count digit : ℕ) → replicate count digit ++ digit ∷ [] ≡ digit ∷ replicate count digit
one_behind zero digit = refl
one_behind (suc count) digit = ap (λ (ds : List ℕ). digit ∷ ds) (one_behind count digit)

-- one digit
pub one_digit : (number : ℕ) → number < 10 → zero_padded 1 number ≡ (48 + number) ∷ []
one_digit number small = rw (decimal_digit number small) refl

-- a front of zeros that the width asks for
zeros_few : (width long : ℕ) → width + 1 - (long + 1) ≡ width - long
zeros_few width long = omega arith

-- and makes them so many
one_more : (width digit : ℕ) → 0 < width → replicate (width - 1) digit ++ digit ∷ [] ≡ replicate width digit
one_more zero digit some = absurd (omega arith)
one_more (suc width) digit some = let e : suc width - 1 ≡ width = omega arith in rw e (one_behind width digit)

-- the last digit of a width stands behind those of the number's tenth
pub last_digit : (width number : ℕ) → 0 < width → number < 2 ^ 64 → zero_padded (width + 1) number ≡ zero_padded width (number / 10) ++ (48 + number % 10) ∷ []
last_digit width number some fits = by_size (cases_lt number 10)
  where
    by_size : (number < 10) ⊎ (10 ≤ number) → zero_padded (width + 1) number ≡ zero_padded width (number / 10) ++ (48 + number % 10) ∷ []
    by_size (inl small) =
        let none : number / 10 ≡ 0 = omega arith in
        let same : number % 10 ≡ number = omega arith in
        let few : width + 1 - 1 ≡ width = omega arith in
        rw (decimal_digit number small, none, same, decimal_digit 0 (omega arith), few, one_more width 48 some) refl
    by_size (inr large) =
        let long = length-append (decimal (number / 10)) ((48 + number % 10) ∷ []) in
        rw (decimal_step number large fits, long, zeros_few width (length (decimal (number / 10)))) (sym (append_assoc (replicate (width - length (decimal (number / 10))) 48) (decimal (number / 10)) ((48 + number % 10) ∷ [])))

-- two digits
pub two_digits : (number : ℕ) → number < 100 → zero_padded 2 number ≡ (48 + number / 10) ∷ (48 + number % 10) ∷ []
two_digits number small = last_digit 1 number (omega arith) (omega arith) ∙ ap (λ (ds : List ℕ). ds ++ (48 + number % 10) ∷ []) (one_digit (number / 10) (omega arith))

-- four digits are two and two
pub four_digits : (number : ℕ) → number < 10000 → zero_padded 4 number ≡ zero_padded 2 (number / 100) ++ zero_padded 2 (number % 100)
four_digits number small =
    let hundredth : number / 10 / 10 ≡ number / 100 = omega arith in
    let tens : number / 10 % 10 ≡ number % 100 / 10 = omega arith in
    let ones : number % 10 ≡ number % 100 % 10 = omega arith in
    let three = last_digit 2 (number / 10) (omega arith) (omega arith) in
    last_digit 3 number (omega arith) (omega arith) ∙ ap (λ (ds : List ℕ). ds ++ (48 + number % 10) ∷ []) three
    ∙ rw (two_digits (number % 100) (omega arith), hundredth, tens, ones) (append_assoc (zero_padded 2 (number / 100)) ((48 + number % 100 / 10) ∷ []) ((48 + number % 100 % 10) ∷ []))

-- a list of two
abbrev pub IsPair : List ℕ → Type 0
IsPair ds = (a : ℕ) × ((b : ℕ) × (ds ≡ a ∷ b ∷ []))

-- as two digits are
pub pair_of : (ds : List ℕ) (number : ℕ) → number < 100 → ds ≡ zero_padded 2 number → IsPair ds
pair_of ds number small e = (48 + number / 10, (48 + number % 10, e ∙ two_digits number small))

-- four digits in two pairs
pub two_pairs : (front back : List ℕ) (number : ℕ) → number < 10000 → front ≡ zero_padded 2 (number / 100) → back ≡ zero_padded 2 (number % 100) → zero_padded 4 number ≡ front ++ back
two_pairs front back number small one two = rw (one, two) (four_digits number small)

-- the bytes of a start, pair by pair
pub start_bytes : (year front back month day hour minute : List ℕ) → IsPair front → IsPair back → IsPair month → IsPair day → IsPair hour → IsPair minute → year ≡ front ++ back →
    slice_index_or front 0 0 ∷ slice_index_or front 1 0 ∷ slice_index_or back 0 0 ∷ slice_index_or back 1 0 ∷ 45 ∷ slice_index_or month 0 0 ∷ slice_index_or month 1 0
    ∷ 45 ∷ slice_index_or day 0 0 ∷ slice_index_or day 1 0 ∷ 84 ∷ slice_index_or hour 0 0 ∷ slice_index_or hour 1 0 ∷ 58 ∷ slice_index_or minute 0 0 ∷ slice_index_or minute 1 0 ∷ []
    ≡ ((year ++ 45 ∷ month) ++ 45 ∷ day) ++ 84 ∷ (hour ++ 58 ∷ minute)
start_bytes year front back month day hour minute a b d e f g whole = rw (whole, a.1.1, b.1.1, d.1.1, e.1.1, f.1.1, g.1.1) refl

-- a year has four digits at most
pub year_size : (year : ℤ) → pos 1 ≤ℤ year → year ≤ℤ pos 9999 → unsigned_abs year < 10000
year_size year low high = grind (arith, ints)

-- Texts of a prior peak.
use Rattle.std.proofs.Common.{◌≡◌, ◌≢◌, ℕ, ◌^◌, ◌<◌, ◌≤◌, List, length, get_or, Ok}
use Rattle.std.specs.Str.Parse.{AllDigits, IsNumeral, digits_value, without_leading_plus}
use Rattle.std.proofs.lemmas.Str.Parse.{IsNumeralModel, numerals_by_value, tells_digits, parse_plain, digits_value_short}

own : IsNumeralModel (AllDigits 10) (digits_value 10)
own = numerals_by_value (AllDigits 10) tells_digits

-- fourteen digits write a number below 10^14
pub few_digits : (text : List ℕ) → IsNumeral 10 text → length text ≤ 14 → digits_value 10 text < 10 ^ 14
few_digits text numeral few = digits_value_short own text 14 numeral.1 few

-- what parses without a plus is the number that its digits write
pub parsed_value : (text : List ℕ) (n : ℕ)
    → (IsNumeral 10 (without_leading_plus text) × (digits_value 10 (without_leading_plus text) < 2 ^ 64)) × (n ≡ digits_value 10 (without_leading_plus text))
    → get_or text 0 0 ≢ 43 → IsNumeral 10 text × (n ≡ digits_value 10 text)
parsed_value text n parsed plain = let p = parse_plain own {E = ℕ} 64 text (Ok n) parsed plain in ((p.0.1, p.0.0), p.1)

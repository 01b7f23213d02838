-- What the decimal readers answer is how a cell is read.
use Rattle.std.proofs.Common.{◌≡◌, ◌≢◌, ◌⊎◌, inl, inr, ℕ, ℤ, ◌<◌, ◌^◌, Bool, true, false, List, [], ◌∷◌, ◌++◌, length, slice_index_or, Option, Result, Ok, Err, IfOk, IfErr, sym, ap, ◌∙◌, arith, subst, to_z, of_z, w64}
use Rattle.std.specs.Int.{w128}
use Rattle.std.proofs.lemmas.Int.{ints}
use Rattle.d_num.specs.Amount.{IsWithin}
use Rattle.std.specs.Bool.{◌==◌}
use Rattle.std.specs.Str.Parse.{AllDigits}
use Rattle.std.specs.Char.{digit_value}
use Rattle.d_text.specs.Decimal.{Written, IsDecimalText, IsSign}
use Rattle.d_text.specs.Fault.{IsDecimalOf, IsDecimalFault, IsFloorFault}
use Rattle.d_text.specs.declared.decimal.DecimalFault.{DecimalFault}
use Rattle.d_text.specs.declared.decimal.DecimalFault.TheVariants.{TooLarge}
use Rattle.d_urdb.specs.Numbers.{CellReader, IsCellReader, IsEnd, IsBeyond}
use Rattle.d_urdb.proofs.ReadOnce.{number_once, end_once}

-- a cell that isn't empty
pub filled : (cell : List ℕ) → false ≡ (length cell == 0) → cell ≢ []
filled [] is same = cc
filled (byte ∷ bytes) is same = cc

-- a number that is read
pub number_read : (limit : ℕ) (cell : List ℕ) (result : Result ℤ DecimalFault) → cell ≢ [] → IfOk result (IsDecimalOf cell 18 limit)
    → IfErr result (IsDecimalFault cell 18 limit) → (reader : CellReader) → IsCellReader reader → result ≡ reader.number limit cell
number_read limit cell (Ok value) some good bad reader are =
    number_once limit cell (Ok value) (reader.number limit cell) (inr good) (are.number_is limit cell)
number_read limit cell (Err fault) some good bad reader are =
    number_once limit cell (Err fault) (reader.number limit cell) (some, bad) (are.number_is limit cell)

-- an end that is read
pub end_read : (cell : List ℕ) (result : Result (Option ℤ) DecimalFault) → IsEnd cell result → (reader : CellReader) → IsCellReader reader
    → result ≡ reader.end cell
end_read cell result is reader are = end_once cell result (reader.end cell) is (are.end_is cell)

-- what begins without a sign doesn't begin with a minus
no_minus : (before point after rest : List ℕ) → AllDigits 10 before → ((point ≡ []) × (after ≡ [])) ⊎ (point ≡ 46 ∷ []) → 0 < length (before ++ after)
    → slice_index_or ((before ++ (point ++ after)) ++ rest) 0 0 ≡ 45 → ⊥
no_minus [] point after rest digits (inl none) some is = omega (arith, some, ap length none.1)
no_minus [] point after rest digits (inr mark) some is =
    let first : 46 ≡ 45 = sym (ap (λ q. slice_index_or ((q ++ after) ++ rest) 0 0) mark) ∙ is in omega (arith, first)
no_minus (digit ∷ before) point after rest digits mark some is =
    let small : digit_value 45 < 10 = subst (λ n. digit_value n < 10) is digits.0 in omega (arith, small)

-- a decimal has a minus exactly where it begins with one
sign_first : (sign core rest : List ℕ) (minus : Bool) → IsSign sign minus → (slice_index_or (core ++ rest) 0 0 ≡ 45 → ⊥)
    → (slice_index_or ((sign ++ core) ++ rest) 0 0 ≡ 45 → minus ≡ true) × ((slice_index_or ((sign ++ core) ++ rest) 0 0 ≡ 45 → ⊥) → minus ≡ false)
sign_first sign core rest minus (inl is) other =
    let same : slice_index_or ((sign ++ core) ++ rest) 0 0 ≡ slice_index_or (core ++ rest) 0 0 = ap (λ s. slice_index_or ((s ++ core) ++ rest) 0 0) is.0 in
    ((λ begins. absurd (other (sym same ∙ begins))), (λ begins. is.1))
sign_first sign core rest minus (inr (inl is)) other =
    let same : slice_index_or ((sign ++ core) ++ rest) 0 0 ≡ 43 = ap (λ s. slice_index_or ((s ++ core) ++ rest) 0 0) is.0 in
    ((λ begins. absurd (omega (arith, same, begins))), (λ begins. is.1))
sign_first sign core rest minus (inr (inr is)) other =
    let same : slice_index_or ((sign ++ core) ++ rest) 0 0 ≡ 45 = ap (λ s. slice_index_or ((s ++ core) ++ rest) 0 0) is.0 in
    ((λ begins. is.1), (λ begins. absurd (begins same)))

sign_of : (cell : List ℕ) (written : Written) → IsDecimalText cell written
    → (slice_index_or cell 0 0 ≡ 45 → written.minus ≡ true) × ((slice_index_or cell 0 0 ≡ 45 → ⊥) → written.minus ≡ false)
sign_of cell written is =
    let m = is.mantissa_is in
    let core = m.before ++ (m.point ++ m.after) in
    let form : cell ≡ (m.sign ++ core) ++ is.exponent = is.form ∙ ap (λ t. t ++ is.exponent) m.form in
    let signs = sign_first m.sign core is.exponent written.minus m.sign_is (no_minus m.before m.point m.after is.exponent m.before_digits m.point_is m.some) in
    let same : slice_index_or cell 0 0 ≡ slice_index_or ((m.sign ++ core) ++ is.exponent) 0 0 = ap (λ t. slice_index_or t 0 0) form in
    ((λ begins. signs.0 (sym same ∙ begins)), (λ other. signs.1 (λ begins. other (same ∙ begins))))

-- an end that is too large, by its first byte
pub beyond_below : (cell : List ℕ) → IsFloorFault cell 3 (10 ^ 10) TooLarge → slice_index_or cell 0 0 ≡ 45 → IsBeyond cell true
beyond_below cell (written, form, beyond) begins = record { written = written; form = form; beyond = beyond; sign = (sign_of cell written form).0 begins }

pub beyond_above : (cell : List ℕ) → IsFloorFault cell 3 (10 ^ 10) TooLarge → (slice_index_or cell 0 0 ≡ 45 → ⊥) → IsBeyond cell false
beyond_above cell (written, form, beyond) other = record { written = written; form = form; beyond = beyond; sign = (sign_of cell written form).1 other }

-- an end within its range is kept by a narrower type
pub kept_end : (end : ℤ) → IsWithin (10 ^ 13) end → to_z w64 (of_z w64 (to_z w128 (of_z w128 end))) ≡ end
kept_end end within = omega (arith, ints)

pub kept_word : (end : ℤ) → IsWithin (10 ^ 13) end → to_z w64 (of_z w64 end) ≡ end
kept_word end within = omega (arith, ints)

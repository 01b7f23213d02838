-- A cell that is refused has no value.
use Rattle.std.proofs.Common.{◌≡◌, ℕ, ◌+◌, ◌<◌, ℤ, List, [], length, length-append, ap, ◌∙◌, subst, arith}
use Rattle.d_text.specs.Decimal.{Written, IsDecimalText, IsInLimit, IsUnits}
use Rattle.d_text.specs.Fault.{IsDecimalFault, IsDecimalOf}
use Rattle.d_text.specs.declared.decimal.DecimalFault.{DecimalFault}
use Rattle.d_text.specs.declared.decimal.DecimalFault.TheVariants.{Empty, Form, TooLarge, TooFine}
use Rattle.d_text.proofs.OneReading.{one-reading}

-- no decimal is empty
pub empty_other : (cell : List ℕ) (w : Written) → cell ≡ [] → IsDecimalText cell w → ⊥
empty_other cell w empty text =
    let m = text.mantissa_is in
    let all : length cell ≡ length text.mantissa + length text.exponent = ap length text.form ∙ length-append text.mantissa text.exponent in
    let parts : length text.mantissa ≡ length m.sign + (length m.before + (length m.point + length m.after)) = ap length m.form ∙ simp length-append in
    let none : length cell ≡ 0 = ap length empty in
    let some : 0 < length m.before + length m.after = omega (arith, m.some, length-append m.before m.after) in
    omega arith

-- what is refused has no value
pub decimal_refused : (cell : List ℕ) (places limit : ℕ) (fault : DecimalFault) (units : ℤ) → IsDecimalFault cell places limit fault
    → IsDecimalOf cell places limit units → ⊥
decimal_refused cell places limit Empty units refused h = empty_other cell h.written refused h.form
decimal_refused cell places limit (Form place) units refused h = refused.other h.written h.form
decimal_refused cell places limit TooLarge units refused h =
    let same : h.written ≡ refused.0 = one-reading cell h.written refused.0 h.form refused.1 in
    refused.2 (subst (λ (w : Written). IsInLimit w places limit) same h.within)
decimal_refused cell places limit TooFine units refused h =
    let same : h.written ≡ refused.0 = one-reading cell h.written refused.0 h.form refused.1 in
    refused.3 units (subst (λ (w : Written). IsUnits w places units) same h.value)

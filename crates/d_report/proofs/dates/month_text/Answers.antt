use Rattle.std.proofs.Common.{◌≡◌, ◌++◌, ◌∷◌, List, ℕ, ◌∙◌, ap, ap₂, string_bytes, unsigned_abs, refl, rules, w16, FitsSigned}
use Rattle.std.specs.Fmt.{styled_decimal}
use Rattle.std.proofs.lemmas.Int.{to_z-of_z}
use Rattle.std.proofs.lemmas.Result.{IfOk-weaker}
use Rattle.d_text.specs.Text.{zero_padded}
use Rattle.d_report.proofs.PrintFacts.{hole-zero_padded}
use Rattle.d_report.proofs.dates.month_text.Goals as goal

pub returns : goal.returns
returns c =
    let fits : FitsSigned w16 c.year.result = search rules in
    let abs = c.unsigned_abs-year.ensures.value ∙ ap unsigned_abs (to_z-of_z w16 c.year.result fits ∙ c.year.ensures) in
    let year = ap (λ s. styled_decimal s c.unsigned_abs-year.result) c.laid_out.ensures ∙ hole-zero_padded 4 c.unsigned_abs-year.result refl ∙ ap (zero_padded 4) abs in
    let number = ap (λ s. styled_decimal s c.number-number.result) c.laid_out-2.ensures ∙ hole-zero_padded 2 c.number-number.result refl ∙ ap (zero_padded 2) c.number-number.ensures in
    let parts = ap₂ (λ (a b : List ℕ). a ++ 45 ∷ b) year number in
    IfOk-weaker c.format.result _ _ (λ s h. let e : string_bytes s ≡ styled_decimal c.laid_out.result c.unsigned_abs-year.result ++ (45 ∷ styled_decimal c.laid_out-2.result c.number-number.result) = h in e ∙ parts) c.format.ensures.ok

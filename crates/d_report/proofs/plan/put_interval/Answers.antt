use Rattle.std.proofs.Common.{refl, ◌≡◌, ℤ, pos, rules, FitsSigned, w64, string_bytes, ap, ◌++◌, ◌∷◌, ◌∙◌}
use Rattle.std.proofs.lemmas.Int.{to_z-of_z}
use Rattle.std.proofs.lemmas.Result.{on_ok_weaker}
use Rattle.std.specs.Fmt.{decimal, signed_decimal}
use Rattle.d_bill.specs.Flows.{flow_of}
use Rattle.d_report.specs.Lines.{start_text}
use Rattle.d_report.proofs.PlanTexts.{level_line_is}
use Rattle.d_report.proofs.plan.put_interval.Goals as goal

pub returns : goal.returns
returns c =
    let i = c.args.problem.now in
    let start : c.start_text-start.result ≡ start_text i c.args.t =
    c.start_text-start.ensures ∙ rw (c.month.ensures.year, c.month.ensures.number, c.minutes.ensures) refl in
    let fits : FitsSigned w64 c.flow.result = search rules in
    let shown : string_bytes c.in_ok-numbers.numbers ≡ decimal c.args.level ++ 32 ∷ signed_decimal c.flow.result
    = c.in_ok-numbers.ensures ∙ ap (λ (z : ℤ). decimal c.args.level ++ 32 ∷ signed_decimal z) (to_z-of_z w64 c.flow.result fits) in
    let numbers : c.as_str.result.now ≡ decimal c.args.level ++ 32 ∷ signed_decimal (flow_of i c.args.t c.args.mode.now)
    = c.as_str.ensures.value ∙ shown ∙ ap (λ (z : ℤ). decimal c.args.level ++ 32 ∷ signed_decimal z) c.flow.ensures in
    on_ok_weaker c.put_line.result
    (level_line_is i c.args.t c.args.mode.now (pos c.args.level) c.args.text.now.items c.extend_from_slice.new.self.items c.push.new.self.items c.extend_from_slice-2.new.self.items c.put_line.new.text.items
    c.start_text-start.result c.bytes.result.now c.as_str.result.now start c.bytes.ensures.value numbers
    c.in_ok-extend_from_slice.ensures.items c.in_ok-push.ensures.items c.in_ok-extend_from_slice-2.ensures.items)
    c.put_line.ensures

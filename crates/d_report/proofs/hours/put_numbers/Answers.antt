use Rattle.std.proofs.Common.{◌++◌, ◌∙◌, ℤ, pos, ap, codes, slice_index, rules, FitsSigned}
use Rattle.std.specs.Int.{w128}
use Rattle.std.proofs.lemmas.Int.{to_z-of_z}
use Rattle.d_text.specs.Text.{whole_text}
use Rattle.d_report.proofs.PlanTexts.{texts_begin, texts_go_on}
use Rattle.d_report.proofs.hours.put_numbers.Goals as goal

pub loop-number-init : goal.loop-number-init
loop-number-init c = texts_begin c.args.text.now.items _

pub loop-number-preserved : goal.loop-number-preserved
loop-number-preserved c =
    let before = c.loop-number.text.items in
    let fits : FitsSigned w128 c.from.result = search rules in
    texts_go_on c.args.text.now.items before c.put_number.new.text.items c.loop-number.number-index
    (λ place. codes " " ++ whole_text (pos (slice_index c.args.numbers.now place))) c.loop-number.invariant
    (c.in_ok-put_number.ensures ∙ ap (λ (z : ℤ). before ++ (codes " " ++ whole_text z)) (to_z-of_z w128 c.from.result fits ∙ c.from.ensures))

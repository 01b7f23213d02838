use Rattle.std.proofs.Common.{◌++◌, ◌∙◌, ◌<◌, ◌≤◌, ◌^◌, ℤ, pos, ap, arith, codes, length, slice_index, rules}
use Rattle.std.specs.Int.{w128}
use Rattle.std.proofs.lemmas.Int.{to_z_pos}
use Rattle.std.proofs.lemmas.List.Elements.{All-get_or}
use Rattle.d_text.specs.Text.{whole_text}
use Rattle.d_report.proofs.PlanTexts.{texts_begin, texts_go_on}
use Rattle.d_report.proofs.hours.put_fractions.Goals as goal

pub loop-fraction-init : goal.loop-fraction-init
loop-fraction-init c = texts_begin c.args.text.now.items _

pub loop-fraction-preserved : goal.loop-fraction-preserved
loop-fraction-preserved c =
    let before = c.loop-fraction.text.items in
    let fractions = c.args.fractions.now in
    let place = c.loop-fraction.fraction-index in
    let there : place < length fractions = search rules in
    let small = All-get_or (λ fraction. fraction ≤ 10 ^ 20) fractions place 0 there c.requires in
    texts_go_on c.args.text.now.items before c.put_number.new.text.items place
    (λ place. codes " " ++ whole_text (pos (slice_index fractions place))) c.loop-fraction.invariant
    (c.in_ok-put_number.ensures ∙ ap (λ (z : ℤ). before ++ (codes " " ++ whole_text z)) (to_z_pos w128 (slice_index fractions place) (omega (arith, small))))

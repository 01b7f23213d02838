use Rattle.std.proofs.Common.{◌≡◌, ◌++◌, ℕ, List, length, ap, ◌∙◌, arith}
use Rattle.d_tier.specs.declared.peak.Peak.{Peak}
use Rattle.d_report.specs.Lines.{texts_of}
use Rattle.d_report.specs.Charges.{group_at_line}
use Rattle.d_report.proofs.PlanTexts.{texts_begin, texts_go_on}
use Rattle.d_report.proofs.charges.put_groups.Goals as goal

pub loop-group-init : goal.loop-group-init
loop-group-init c = texts_begin c.args.text.now.items _

pub loop-group-preserved : goal.loop-group-preserved
loop-group-preserved c =
    texts_go_on c.args.text.now.items c.loop-group.text.items c.put_group_at.new.text.items c.loop-group.group
    (group_at_line c.args.problem.now c.args.tally.now) c.loop-group.invariant c.in_ok-put_group_at.ensures

pub returns : goal.returns
returns c =
    let i = c.args.problem.now in
    let end : length c.groups-group-end.result.now ≡ length i.peaks = ap (λ (peaks : List Peak). length peaks) c.groups-group-end.ensures.value in
    let all : c.loop-group.group ≡ length i.peaks = omega (arith, end, c.loop-group.auto.group-end) in
    c.loop-group.invariant ∙ ap (λ (n : ℕ). c.args.text.now.items ++ texts_of n (group_at_line i c.args.tally.now)) all

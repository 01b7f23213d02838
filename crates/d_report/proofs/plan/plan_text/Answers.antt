use Rattle.std.proofs.Common.{◌++◌, ◌∙◌, List, ℕ, ℤ, ap, ap₂, codes}
use Rattle.d_bill.specs.Totals.{Tallied, tally_of}
use Rattle.d_bill.specs.Bills.{bill_of, bill_by, metered_bill}
use Rattle.d_report.specs.Lines.{title_lines}
use Rattle.d_report.specs.Charges.{bill_lines}
use Rattle.d_report.specs.Plans.{verdict_lines, schedule_lines}
use Rattle.d_report.proofs.LineFacts.{four_new}
use Rattle.d_report.proofs.plan.plan_text.Goals as goal

pub returns : goal.returns
returns c =
    let i = c.args.problem.now in
    let s = c.args.schedule.now in
    let finding = c.args.finding.now in
    let verdict = ap₂ (λ (bill metered : ℤ). verdict_lines bill metered finding) (c.bill.ensures.value ∙ ap (bill_by i) c.tally_of-tally.ensures.value) c.metered_bill.ensures in
    four_new c.new-text.result.items c.put_title.new.text.items c.put_verdict.new.text.items c.put_bill.new.text.items c.put_schedule.new.text.items
    (title_lines (codes "plan") i c.args.label.now) (verdict_lines (bill_of i s) (metered_bill i) finding) (bill_lines i (tally_of i s)) (schedule_lines i s)
    c.new-text.ensures.items c.in_ok-put_title.ensures
    (c.in_ok-put_verdict.ensures ∙ ap (λ (lines : List ℕ). c.put_title.new.text.items ++ lines) verdict)
    (c.in_ok-put_bill.ensures ∙ ap (λ (t : Tallied). c.put_verdict.new.text.items ++ bill_lines i t) c.tally_of-tally.ensures.value)
    c.in_ok-put_schedule.ensures

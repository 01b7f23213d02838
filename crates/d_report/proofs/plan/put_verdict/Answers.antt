use Rattle.std.proofs.Common.{codes}
use Rattle.std.proofs.lemmas.Result.{on_ok_weaker}
use Rattle.d_report.specs.Lines.{money_line}
use Rattle.d_report.specs.Plans.{found_line, lower_line, boxes_line}
use Rattle.d_report.proofs.LineFacts.{five_parts}
use Rattle.d_report.proofs.plan.put_verdict.Goals as goal

pub returns : goal.returns
returns c =
    let finding = c.args.finding.now in
    on_ok_weaker c.put_boxes.result
    (five_parts c.args.text.now.items c.put_found.new.text.items c.put_money.new.text.items c.put_lower.new.text.items c.put_money-2.new.text.items c.put_boxes.new.text.items
    (found_line finding.found) (money_line (codes "bill ") c.args.bill) (lower_line finding.found finding.lower) (money_line (codes "metered ") c.args.metered)
    (boxes_line finding.boxes)
    c.in_ok-put_found.ensures c.in_ok-put_money.ensures c.in_ok-put_lower.ensures c.in_ok-put_money-2.ensures)
    c.put_boxes.ensures

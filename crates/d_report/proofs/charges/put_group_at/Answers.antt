use Rattle.std.proofs.Common.{◌++◌, ◌∙◌, ℤ, List, ℕ, ap, ap₂, codes, slice_get, slice_index_or, pos}
use Rattle.std.proofs.lemmas.Result.{on_ok_weaker}
use Rattle.d_bill.specs.Totals.{Tallied}
use Rattle.d_bill.specs.Bills.{group_charge}
use Rattle.d_report.specs.Lines.{money_line}
use Rattle.d_report.specs.Charges.{group_front, floor_at}
use Rattle.d_report.proofs.GroupFacts.{floor_is, peak_is}
use Rattle.d_report.proofs.LineFacts.{two_parts}
use Rattle.d_report.proofs.charges.put_group_at.Goals as goal

pub returns : goal.returns
returns c =
    let i = c.args.problem.now in
    let tally = c.args.tally.now in
    let group = c.args.group in
    let inside : Tallied = record { totals = c.tally.inside.totals; credit = c.tally.inside.credit; peaks = c.tally.inside.peaks } in
    let peak = peak_is i inside tally group c.index-tally-group.result c.groups.ensures.range c.requires.group c.tally.invariant.1 c.tally.view_is in
    let floor = floor_is i c.groups.result.now group c.index-groups-group.result c.groups.ensures.value c.requires.group in
    let front = c.in_ok-put_front.ensures
    ∙ ap (λ (list : List ℕ). c.args.text.now.items ++ list)
    (ap₂ (λ (p f : ℤ). group_front c.group_period.result p f) peak floor ∙ ap (λ number. group_front number (slice_index_or tally.peaks group (pos 0)) (floor_at i group)) c.group_period.ensures) in
    on_ok_weaker c.put_money.result
    (λ put. two_parts c.args.text.now.items c.put_front.new.text.items c.put_money.new.text.items
    (group_front (slice_get i.demand_groups group) (slice_index_or tally.peaks group (pos 0)) (floor_at i group)) (money_line (codes " charge ") (group_charge i tally group))
    front (put ∙ ap (λ (z : ℤ). c.put_front.new.text.items ++ money_line (codes " charge ") z) c.group_charge.ensures.value))
    c.put_money.ensures

use Rattle.std.proofs.Common.{◌*◌, ◌/◌, sym, ◌∙◌, rules}
use Rattle.d_meter.proofs.HeadFacts.{not_begun, no_step, other_count, right_count}
use Rattle.d_meter.proofs.head.head_of.Goals as goal

pub returns-then-not-begins_month-clause-refusals : goal.returns-then-not-begins_month-clause-refusals
returns-then-not-begins_month-clause-refusals c =
    not_begun c.args.first c.args.second c.args.count (sym c.begins_month.ensures ∙ c.if-not-begins_month.true)

pub returns-in_default-clause-refusals : goal.returns-in_default-clause-refusals
returns-in_default-clause-refusals c =
    no_step c.args.first c.args.second c.args.count (sym c.begins_month.ensures ∙ c.if-not-begins_month.false) c.in_default.ensures.none

pub returns-then-count-need-clause-refusals : goal.returns-then-count-need-clause-refusals
returns-then-count-need-clause-refusals c =
    other_count c.args.first c.args.second c.args.count (c.from.result * 1440 / c.from-2.result)
    (sym c.begins_month.ensures ∙ c.if-not-begins_month.false) c.in-Some.ensures.some.0 (search rules) c.if-count-need.true

pub returns-clause-refusals : goal.returns-clause-refusals
returns-clause-refusals c =
    right_count c.args.first c.args.second c.args.count (c.from.result * 1440 / c.from-2.result)
    (sym c.begins_month.ensures ∙ c.if-not-begins_month.false) c.in-Some.ensures.some.0 (search rules) c.if-count-need.false

use Rattle.std.proofs.Common.{[], ◌∷◌, sym, ◌∙◌}
use Rattle.d_meter.specs.Readings.{row_refusals, net_refusal, net_at}
use Rattle.d_meter.proofs.Tests.{checked}
use Rattle.d_meter.proofs.RowFacts.{no_start, not_due, due}
use Rattle.d_meter.proofs.row.read_row.Goals as goal

pub returns-in_default-clause-refusals : goal.returns-in_default-clause-refusals
returns-in_default-clause-refusals c =
    λ reader are. no_start reader c.args.table.now c.args.head.month.year c.args.head.month.number c.args.head.minutes c.args.row
    (c.in_default.ensures.value reader are)

pub returns-then-not-is_due-clause-refusals : goal.returns-then-not-is_due-clause-refusals
returns-then-not-is_due-clause-refusals c =
    λ reader are. not_due reader c.args.table.now c.args.head.month.year c.args.head.month.number c.args.head.minutes c.args.row c.in-Some.start
    (c.in-Some.ensures.value reader are) (sym c.is_due.ensures ∙ c.if-not-is_due.true)

pub returns-clause-refusals : goal.returns-clause-refusals
returns-clause-refusals c =
    checked (λ reader. row_refusals reader c.args.table.now c.args.head.month.year c.args.head.month.number c.args.head.minutes c.args.row)
    (λ reader. net_refusal (net_at reader c.args.table.now c.args.row) c.args.row ∷ []) c.read_net.result
    (λ reader are. due reader c.args.table.now c.args.head.month.year c.args.head.month.number c.args.head.minutes c.args.row c.in-Some.start
    (c.in-Some.ensures.value reader are) (sym c.is_due.ensures ∙ c.if-not-is_due.false))
    c.read_net.ensures.refusals

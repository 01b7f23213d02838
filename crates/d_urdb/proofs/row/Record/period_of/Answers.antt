use Rattle.std.proofs.Common.{refl, sym, ap, ◌∙◌}
use Rattle.d_urdb.specs.Shown.{row_of}
use Rattle.d_urdb.specs.FlatMonths.{period_in}
use Rattle.d_urdb.specs.Months.{item_cell, item_column}
use Rattle.d_urdb.proofs.CheckFacts.{refusal_same}
use Rattle.d_urdb.proofs.FlatFacts.{flat_passes, flat_value, flat_refuses}
use Rattle.d_urdb.proofs.row.Record.period_of.Goals as goal
use Rattle.d_urdb.specs.declared.cause.Cause.TheVariants as cause

pub returns-in-Some-clause-refusals : goal.returns-in-Some-clause-refusals
returns-in-Some-clause-refusals c reader are =
    let row = row_of c.args.self.now in
    let text = c.item.ensures reader are ∙ ap (λ list. item_cell reader row list c.args.month) c.requires.items.list_is in
    flat_passes reader row c.args.month c.in-Some.period (ap period_in (sym text) ∙ sym c.read_period.ensures.value ∙ c.in-Some.is)

pub returns-in-Some-clause-value : goal.returns-in-Some-clause-value
returns-in-Some-clause-value c reader are =
    let row = row_of c.args.self.now in
    let text = c.item.ensures reader are ∙ ap (λ list. item_cell reader row list c.args.month) c.requires.items.list_is in
    flat_value reader row c.args.month c.in-Some.period (ap period_in (sym text) ∙ sym c.read_period.ensures.value ∙ c.in-Some.is)

pub returns-in-None-clause-refusals : goal.returns-in-None-clause-refusals
returns-in-None-clause-refusals c reader are =
    let row = row_of c.args.self.now in
    let text = c.item.ensures reader are ∙ ap (λ list. item_cell reader row list c.args.month) c.requires.items.list_is in
    flat_refuses reader row c.args.month c.refusal.result (ap period_in (sym text) ∙ sym c.read_period.ensures.value ∙ c.in-None.is)
    (refusal_same _ cause.Grid _ _ 0 0 c.refusal.result c.refusal.ensures
    (c.item_column-column.ensures.value ∙ ap (λ list. item_column row list c.args.month) c.requires.items.list_is) refl)

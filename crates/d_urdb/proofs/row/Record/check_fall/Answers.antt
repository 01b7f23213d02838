use Rattle.std.proofs.Common.{◌∙◌, ap, refl, sym}
use Rattle.std.specs.Option.{option_or}
use Rattle.d_columns.specs.declared.names.Part.TheVariants.{Adj}
use Rattle.d_urdb.specs.Shown.{row_of}
use Rattle.d_columns.specs.Tiers.{part_column}
use Rattle.d_urdb.proofs.CheckFacts.{refusal_same, when_passes, when_refuses}
use Rattle.d_urdb.proofs.row.Record.check_fall.Goals as goal
use Rattle.d_urdb.specs.declared.cause.Cause.TheVariants as cause

pub returns-then-has_negative_price : goal.returns-then-has_negative_price
returns-then-has_negative_price c = λ reader are.
    let row = row_of c.args.self.now in
    let column = c.or.ensures ∙ ap (λ added. option_or added c.part_column-rate.result) c.part_column-added.ensures.value
    ∙ ap (option_or (part_column row c.args.structure c.args.period c.args.tier Adj)) c.part_column-rate.ensures.value in
    when_refuses _ _ c.refusal.result (sym (c.if-has_negative_price.ensures reader are))
    (refusal_same _ cause.DemandFalls _ _ 0 0 c.refusal.result c.refusal.ensures column refl)

pub returns : goal.returns
returns c = λ reader are. when_passes _ _ (sym (c.if-has_negative_price.ensures reader are))

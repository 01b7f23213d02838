use Rattle.std.proofs.Common.{refl, sym}
use Rattle.d_urdb.proofs.CheckFacts.{refusal_same, when_passes, when_refuses}
use Rattle.d_urdb.proofs.row.Record.check_sell.Goals as goal
use Rattle.d_urdb.specs.declared.cause.Cause.TheVariants as cause

pub returns-then-has_other_sell : goal.returns-then-has_other_sell
returns-then-has_other_sell c = λ reader are.
    when_refuses _ _ c.refusal.result (sym (c.if-has_other_sell.ensures reader are))
    (refusal_same _ cause.SellTiers _ _ 0 0 c.refusal.result c.refusal.ensures c.part_column-column.ensures.value refl)

pub returns : goal.returns
returns c = λ reader are. when_passes _ _ (sym (c.if-has_other_sell.ensures reader are))

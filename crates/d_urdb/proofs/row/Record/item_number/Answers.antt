use Rattle.std.proofs.Common.{sym, ap, ◌∙◌}
use Rattle.d_urdb.specs.Shown.{row_of}
use Rattle.d_urdb.proofs.CheckFacts.{refusal_same}
use Rattle.d_urdb.proofs.MonthFacts.{item_passes, item_refuses}
use Rattle.d_urdb.proofs.row.Record.item_number.Goals as goal
use Rattle.d_urdb.specs.declared.cause.Cause.TheVariants as cause

pub returns-in-Ok-clause-refusals : goal.returns-in-Ok-clause-refusals
returns-in-Ok-clause-refusals c reader are =
    item_passes reader (row_of c.args.self.now) c.args.items.now.list c.args.limit c.args.month c.in-Ok.units
    (ap (reader.number c.args.limit) (sym (c.item.ensures reader are)) ∙ sym (c.read_number.ensures.value reader are) ∙ c.in-Ok.is)

pub returns-in-Err-clause-refusals : goal.returns-in-Err-clause-refusals
returns-in-Err-clause-refusals c reader are =
    item_refuses reader (row_of c.args.self.now) c.args.items.now.list c.args.limit c.args.month c.in-Err.fault c.refusal.result
    (ap (reader.number c.args.limit) (sym (c.item.ensures reader are)) ∙ sym (c.read_number.ensures.value reader are) ∙ c.in-Err.is)
    (refusal_same _ cause.Decimal _ _ _ _ c.refusal.result c.refusal.ensures c.item_column-column.ensures.value c.fault_detail.ensures)

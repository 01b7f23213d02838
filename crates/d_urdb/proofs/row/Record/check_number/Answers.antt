use Rattle.std.proofs.Common.{sym, ap, ◌∙◌}
use Rattle.d_urdb.specs.Shown.{row_of}
use Rattle.d_urdb.specs.Periods.{price_limit}
use Rattle.d_urdb.proofs.CheckFacts.{refusal_same, price_passes, price_refuses}
use Rattle.d_urdb.proofs.row.Record.check_number.Goals as goal
use Rattle.d_urdb.specs.declared.cause.Cause.TheVariants as cause

pub returns-in-Ok : goal.returns-in-Ok
returns-in-Ok c = λ reader are.
    price_passes reader (row_of c.args.self.now) c.args.structure c.args.period c.args.tier c.args.part c.in-Ok.field-0
    (ap (reader.number price_limit) (sym c.part_cell.ensures) ∙ sym (c.read_number.ensures.value reader are) ∙ c.in-Ok.is)

pub returns-in-Err : goal.returns-in-Err
returns-in-Err c = λ reader are.
    price_refuses reader (row_of c.args.self.now) c.args.structure c.args.period c.args.tier c.args.part c.in-Err.fault c.refusal.result
    (ap (reader.number price_limit) (sym c.part_cell.ensures) ∙ sym (c.read_number.ensures.value reader are) ∙ c.in-Err.is)
    (refusal_same _ cause.Decimal _ _ _ _ c.refusal.result c.refusal.ensures c.part_column-column.ensures.value c.fault_detail.ensures)

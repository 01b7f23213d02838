use Rattle.std.proofs.Common.{sym, ap, ◌∙◌}
use Rattle.d_urdb.specs.Shown.{row_of}
use Rattle.d_urdb.proofs.CheckFacts.{refusal_same, last_passes, end_passes, end_refuses}
use Rattle.d_urdb.proofs.row.Record.check_end.Goals as goal
use Rattle.d_urdb.specs.declared.cause.Cause.TheVariants as cause

pub returns-then-is_last : goal.returns-then-is_last
returns-then-is_last c = λ reader are. last_passes reader (row_of c.args.self.now) c.args.structure c.args.period c.args.tier (sym c.if-is_last.ensures)

pub returns-in-Ok : goal.returns-in-Ok
returns-in-Ok c = λ reader are.
    end_passes reader (row_of c.args.self.now) c.args.structure c.args.period c.args.tier c.in-Ok.field-0 (sym c.if-is_last.ensures)
    (ap reader.end (sym c.part_cell.ensures) ∙ sym (c.read_end.ensures.value reader are) ∙ c.in-Ok.is)

pub returns-in-Err : goal.returns-in-Err
returns-in-Err c = λ reader are.
    end_refuses reader (row_of c.args.self.now) c.args.structure c.args.period c.args.tier c.in-Err.fault c.refusal.result (sym c.if-is_last.ensures)
    (ap reader.end (sym c.part_cell.ensures) ∙ sym (c.read_end.ensures.value reader are) ∙ c.in-Err.is)
    (refusal_same _ cause.Decimal _ _ _ _ c.refusal.result c.refusal.ensures c.part_column-column.ensures.value c.fault_detail.ensures)

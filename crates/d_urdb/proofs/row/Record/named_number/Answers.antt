use Rattle.std.proofs.Common.{sym, ap, ◌∙◌}
use Rattle.d_urdb.specs.Shown.{row_of}
use Rattle.d_urdb.proofs.CheckFacts.{refusal_same}
use Rattle.d_urdb.proofs.NamedFacts.{name_passes, name_value, name_refuses, kept_units}
use Rattle.d_urdb.proofs.row.Record.named_number.Goals as goal
use Rattle.d_urdb.specs.declared.cause.Cause.TheVariants as cause

pub returns-in-Ok-clause-refusals : goal.returns-in-Ok-clause-refusals
returns-in-Ok-clause-refusals c = λ reader are.
    name_passes reader (row_of c.args.self.now) c.args.limit c.args.name.now c.in-Ok.units
    (ap (reader.number c.args.limit) (sym c.named_cell.ensures) ∙ sym (c.read_number.ensures.value reader are) ∙ c.in-Ok.is)

pub returns-in-Ok-clause-value : goal.returns-in-Ok-clause-value
returns-in-Ok-clause-value c = λ reader are.
    rw (kept_units c.args.limit c.in-Ok.units c.requires.limit c.in-Ok.ensures.range)
    (name_value reader (row_of c.args.self.now) c.args.limit c.args.name.now c.in-Ok.units
    (ap (reader.number c.args.limit) (sym c.named_cell.ensures) ∙ sym (c.read_number.ensures.value reader are) ∙ c.in-Ok.is))

pub returns-in-Err-clause-refusals : goal.returns-in-Err-clause-refusals
returns-in-Err-clause-refusals c = λ reader are.
    name_refuses reader (row_of c.args.self.now) c.args.limit c.args.name.now c.in-Err.fault c.refusal.result
    (ap (reader.number c.args.limit) (sym c.named_cell.ensures) ∙ sym (c.read_number.ensures.value reader are) ∙ c.in-Err.is)
    (refusal_same _ cause.Decimal _ _ _ _ c.refusal.result c.refusal.ensures c.position-column.ensures.value c.fault_detail.ensures)

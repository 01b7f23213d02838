use Rattle.std.proofs.Common.{refl}
use Rattle.d_urdb.specs.Shown.{row_of}
use Rattle.d_urdb.proofs.CheckFacts.{refusal_same}
use Rattle.d_urdb.proofs.DemandFacts.{unit_passes, unit_refuses}
use Rattle.d_urdb.proofs.row.Record.check_demand_unit.Goals as goal
use Rattle.d_urdb.specs.declared.cause.Cause.TheVariants as cause

pub returns-then-not-is_unit : goal.returns-then-not-is_unit
returns-then-not-is_unit c = λ reader are.
    unit_refuses (row_of c.args.self.now) c.args.name.now c.named_cell.result.now c.is_unit.result c.refusal.result c.named_cell.ensures c.is_unit.ensures c.if-not-is_unit.true
    (refusal_same _ cause.DemandUnit _ _ 0 0 c.refusal.result c.refusal.ensures c.position-column.ensures.value refl)

pub returns : goal.returns
returns c = λ reader are.
    unit_passes (row_of c.args.self.now) c.args.name.now c.named_cell.result.now c.is_unit.result c.named_cell.ensures c.is_unit.ensures c.if-not-is_unit.false

use Rattle.std.proofs.Common.{sym, ap, ◌∙◌}
use Rattle.std.proofs.lemmas.Result.{err_from_is_err_and}
use Rattle.d_urdb.specs.Charges.{unit_in}
use Rattle.d_urdb.specs.Shown.{row_of}
use Rattle.d_urdb.proofs.ChargeFacts.{charge_unread, charge_none, charge_passes, charge_refuses, zero_bits, other_bits}
use Rattle.d_urdb.proofs.row.Record.charge.Goals as goal

pub returns-in_err-amount-clause-refusals : goal.returns-in_err-amount-clause-refusals
returns-in_err-amount-clause-refusals c =
    let p = err_from_is_err_and c.from_residual.result c.from_residual.ensures.1 in
    rw (p.1, p.2) (charge_unread (row_of c.args.self.now) c.args.name.now c.args.unit_name.now c.in_err-amount.field-0.0 c.in_err-amount.ensures.refusals)

pub returns-then-amount-eq0-clause-refusals : goal.returns-then-amount-eq0-clause-refusals
returns-then-amount-eq0-clause-refusals c =
    charge_none (row_of c.args.self.now) c.args.name.now c.args.unit_name.now c.in_ok-amount.amount
    c.in_ok-amount.ensures.refusals c.in_ok-amount.ensures.value (zero_bits c.in_ok-amount.amount c.in_ok-amount.ensures.range c.if-amount-eq0.true)

pub returns-in-Some-clause-refusals : goal.returns-in-Some-clause-refusals
returns-in-Some-clause-refusals c =
    charge_passes (row_of c.args.self.now) c.args.name.now c.args.unit_name.now c.in-Some.unit c.in_ok-amount.ensures.refusals
    (ap unit_in (sym c.named_cell.ensures) ∙ sym c.read_unit.ensures ∙ c.in-Some.is)

pub returns-in-None-clause-refusals : goal.returns-in-None-clause-refusals
returns-in-None-clause-refusals c =
    charge_refuses (row_of c.args.self.now) c.args.name.now c.args.unit_name.now c.in_ok-amount.amount c.position-column.result c.refusal.result
    c.in_ok-amount.ensures.refusals c.in_ok-amount.ensures.value (other_bits c.in_ok-amount.amount c.if-amount-eq0.false)
    (ap unit_in (sym c.named_cell.ensures) ∙ sym c.read_unit.ensures ∙ c.in-None.is) c.refusal.ensures c.position-column.ensures.value

use Rattle.std.proofs.lemmas.Result.{err_from_is_err_and}
use Rattle.d_urdb.specs.Shown.{row_of}
use Rattle.d_urdb.proofs.ChargeFacts.{zero_unread, zero_refuses, zero_passes, zero_bits, other_bits}
use Rattle.d_urdb.proofs.row.Record.check_zero.Goals as goal

pub returns-in_err-amount : goal.returns-in_err-amount
returns-in_err-amount c =
    let p = err_from_is_err_and c.from_residual.result c.from_residual.ensures.1 in
    rw (p.1, p.2) (zero_unread (row_of c.args.self.now) c.args.name.now c.args.cause c.in_err-amount.field-0.0 c.in_err-amount.ensures.refusals)

pub returns-then-amount-ne0 : goal.returns-then-amount-ne0
returns-then-amount-ne0 c =
    zero_refuses (row_of c.args.self.now) c.args.name.now c.args.cause c.in_ok-amount.amount c.position-column.result c.refusal.result
    c.in_ok-amount.ensures.refusals c.in_ok-amount.ensures.value (other_bits c.in_ok-amount.amount c.if-amount-ne0.true) c.refusal.ensures c.position-column.ensures.value

pub returns : goal.returns
returns c =
    zero_passes (row_of c.args.self.now) c.args.name.now c.args.cause c.in_ok-amount.amount
    c.in_ok-amount.ensures.refusals c.in_ok-amount.ensures.value (zero_bits c.in_ok-amount.amount c.in_ok-amount.ensures.range c.if-amount-ne0.false)

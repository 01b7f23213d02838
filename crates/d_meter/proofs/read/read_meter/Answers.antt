use Rattle.std.proofs.Common.{◌∙◌, ◌*◌, ℕ, inr, ap}
use Rattle.std.proofs.lemmas.Result.{err_from_is_err_and}
use Rattle.d_meter.proofs.Outcomes.{head_refused, rows_refused, all_read}
use Rattle.d_meter.proofs.read.read_meter.Goals as goal

pub returns-in_err-head-clause-refused : goal.returns-in_err-head-clause-refused
returns-in_err-head-clause-refused c =
    let p = err_from_is_err_and c.from_residual.result c.from_residual.ensures.1 in
    rw (p.1, p.2) (inr (head_refused c.args.table.now c.in_err-head.field-0.0 c.in_err-head.ensures.refusals))

pub returns-in_err-net-clause-refused : goal.returns-in_err-net-clause-refused
returns-in_err-net-clause-refused c =
    let p = err_from_is_err_and c.from_residual-in_err-net.result c.from_residual-in_err-net.ensures.1 in
    let head = c.in_ok-head.head in
    rw (p.1, p.2) (rows_refused c.args.table.now head.month.year head.month.number head.minutes c.in_ok-head.ensures.refusals c.in_ok-head.ensures.head
    c.in_err-net.field-0.0 c.in_err-net.ensures.refusals)

pub returns-clause-meter : goal.returns-clause-meter
returns-clause-meter c =
    let head = c.in_ok-head.head in
    all_read c.args.table.now head.month.year head.month.number head.minutes c.in_ok-head.ensures.refusals c.in_ok-head.ensures.head c.in_ok-net.net
    c.in_ok-net.ensures.refusals c.in_ok-net.ensures.net

pub invariant_of-result : goal.invariant_of-result
invariant_of-result c = record {
  complete = record {
    pace = c.in_ok-head.ensures.fits.pace;
    whole = ap (λ (n : ℕ). n * c.in_ok-head.head.minutes) c.in_ok-net.ensures.count ∙ c.in_ok-head.ensures.fits.whole;
    small = c.in_ok-net.ensures.small;
  };
}

use Rattle.std.proofs.lemmas.Result.{err_from_is_err_and}
use Rattle.d_urdb.specs.Shown.{row_of}
use Rattle.d_urdb.proofs.DemandFacts.{weekday_refuses, weekend_refuses, hours_pass}
use Rattle.d_urdb.proofs.row.Record.demand_hours.Goals as goal

pub returns-in_err-weekday-clause-refusals : goal.returns-in_err-weekday-clause-refusals
returns-in_err-weekday-clause-refusals c =
    let p = err_from_is_err_and c.from_residual.result c.from_residual.ensures.1 in
    rw (p.1, p.2) (weekday_refuses (row_of c.args.self.now) c.in_err-weekday.field-0.0 c.in_err-weekday.ensures.refusals)

pub returns-in_err-weekend-clause-refusals : goal.returns-in_err-weekend-clause-refusals
returns-in_err-weekend-clause-refusals c =
    let p = err_from_is_err_and c.from_residual-in_err-weekend.result c.from_residual-in_err-weekend.ensures.1 in
    rw (p.1, p.2) (weekend_refuses (row_of c.args.self.now) c.in_err-weekend.field-0.0 c.in_ok-weekday.ensures.refusals c.in_err-weekend.ensures.refusals)

pub returns-clause-refusals : goal.returns-clause-refusals
returns-clause-refusals c = hours_pass (row_of c.args.self.now) c.in_ok-weekday.ensures.refusals c.in_ok-weekend.ensures.refusals

pub returns-clause-hours : goal.returns-clause-hours
returns-clause-hours c = record { weekday = c.in_ok-weekday.ensures.value; weekend = c.in_ok-weekend.ensures.value }

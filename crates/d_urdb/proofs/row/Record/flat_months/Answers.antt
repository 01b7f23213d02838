use Rattle.std.proofs.lemmas.Result.{err_from_is_err_and}
use Rattle.d_urdb.specs.Shown.{row_of}
use Rattle.d_urdb.proofs.FlatFacts.{list_refuses, then_months}
use Rattle.d_urdb.proofs.row.Record.flat_months.Goals as goal

pub returns-in_err-items-clause-refusals : goal.returns-in_err-items-clause-refusals
returns-in_err-items-clause-refusals c =
    let p = err_from_is_err_and c.from_residual.result c.from_residual.ensures.1 in
    rw (p.1, p.2) (list_refuses (row_of c.args.self.now) c.in_err-items.field-0.0 c.in_err-items.ensures.refusals)

pub returns-clause-refusals : goal.returns-clause-refusals
returns-clause-refusals c =
    then_months (row_of c.args.self.now) c.periods_of.result c.in_ok-items.ensures.refusals c.periods_of.ensures.refusals

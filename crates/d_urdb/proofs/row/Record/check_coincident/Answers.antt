use Rattle.std.proofs.lemmas.Result.{err_from_is_err_and}
use Rattle.d_urdb.specs.declared.coincident_rule.CoincidentRule.TheVariants.{Numbers, Prices}
use Rattle.d_urdb.specs.Adjustments.{coincident_refusals}
use Rattle.d_urdb.specs.Shown.{row_of}
use Rattle.d_urdb.proofs.CoincidentFacts.{by_rule}
use Rattle.d_urdb.proofs.RefusalOrder.{first_refuses, then_checks}
use Rattle.d_urdb.proofs.row.Record.check_coincident.Goals as goal

pub returns-in_err-check_coincident_periods : goal.returns-in_err-check_coincident_periods
unfolding coincident_refusals
returns-in_err-check_coincident_periods c =
    let p = err_from_is_err_and c.from_residual.result c.from_residual.ensures.1 in
    let row = row_of c.args.self.now in
    rw (p.1, p.2) (first_refuses (by_rule Numbers row) (by_rule Prices row) c.in_err-check_coincident_periods.field-0.0 c.in_err-check_coincident_periods.ensures)

pub returns : goal.returns
unfolding coincident_refusals
returns c =
    let row = row_of c.args.self.now in
    then_checks (by_rule Numbers row) (by_rule Prices row) c.check_coincident_periods-2.result c.in_ok-check_coincident_periods.ensures c.check_coincident_periods-2.ensures

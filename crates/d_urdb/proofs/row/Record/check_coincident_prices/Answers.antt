use Rattle.std.proofs.lemmas.Result.{err_from_is_err_and}
use Rattle.d_columns.specs.declared.names.Part.TheVariants.{Rate, Adj}
use Rattle.d_urdb.specs.Shown.{row_of}
use Rattle.d_urdb.proofs.CoincidentFacts.{by_price}
use Rattle.d_urdb.proofs.RefusalOrder.{first_refuses, then_checks}
use Rattle.d_urdb.proofs.row.Record.check_coincident_prices.Goals as goal

pub returns-in_err-check_coincident_price : goal.returns-in_err-check_coincident_price
returns-in_err-check_coincident_price c =
    let p = err_from_is_err_and c.from_residual.result c.from_residual.ensures.1 in
    let row = row_of c.args.self.now in
    rw (p.1, p.2) (first_refuses (by_price row c.args.period c.args.tier Rate) (by_price row c.args.period c.args.tier Adj) c.in_err-check_coincident_price.field-0.0 c.in_err-check_coincident_price.ensures)

pub returns : goal.returns
returns c =
    let row = row_of c.args.self.now in
    then_checks (by_price row c.args.period c.args.tier Rate) (by_price row c.args.period c.args.tier Adj) c.check_coincident_price-2.result c.in_ok-check_coincident_price.ensures c.check_coincident_price-2.ensures

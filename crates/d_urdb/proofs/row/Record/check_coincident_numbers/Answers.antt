use Rattle.std.proofs.lemmas.Result.{err_from_is_err_and}
use Rattle.d_columns.specs.declared.names.Part.TheVariants.{Rate, Adj}
use Rattle.d_urdb.specs.Shown.{row_of}
use Rattle.d_urdb.proofs.CoincidentFacts.{by_number}
use Rattle.d_urdb.proofs.RefusalOrder.{first_refuses, then_checks}
use Rattle.d_urdb.proofs.row.Record.check_coincident_numbers.Goals as goal

pub returns-in_err-check_number : goal.returns-in_err-check_number
returns-in_err-check_number c =
    let p = err_from_is_err_and c.from_residual.result c.from_residual.ensures.1 in
    let row = row_of c.args.self.now in
    rw (p.1, p.2) (first_refuses (by_number row c.args.period c.args.tier Rate) (by_number row c.args.period c.args.tier Adj) c.in_err-check_number.field-0.0 c.in_err-check_number.ensures)

pub returns : goal.returns
returns c =
    let row = row_of c.args.self.now in
    then_checks (by_number row c.args.period c.args.tier Rate) (by_number row c.args.period c.args.tier Adj) c.check_number-2.result c.in_ok-check_number.ensures c.check_number-2.ensures

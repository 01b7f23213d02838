use Rattle.std.proofs.lemmas.Result.{err_from_is_err_and}
use Rattle.d_urdb.specs.Shown.{row_of}
use Rattle.d_urdb.proofs.FuelFacts.{list_refuses, item_refuses, then_months, fuel_numbers}
use Rattle.d_urdb.proofs.row.Record.check_fuel.Goals as goal

pub returns-in_err-items : goal.returns-in_err-items
returns-in_err-items c =
    let p = err_from_is_err_and c.from_residual.result c.from_residual.ensures.1 in
    rw (p.1, p.2) (list_refuses (row_of c.args.self.now) c.in_err-items.field-0.0 c.in_err-items.ensures.refusals)

pub returns-in_err-numbers : goal.returns-in_err-numbers
returns-in_err-numbers c =
    let p = err_from_is_err_and c.from_residual-in_err-numbers.result c.from_residual-in_err-numbers.ensures.1 in
    rw (p.1, p.2) (item_refuses (row_of c.args.self.now) c.in_ok-items.items.list c.in_err-numbers.field-0.0 c.in_ok-items.ensures.items.list_is
    c.in_ok-items.ensures.refusals c.in_err-numbers.ensures.refusals)

pub check_no_fuel-requires-clause-numbers : goal.check_no_fuel-requires-clause-numbers
check_no_fuel-requires-clause-numbers c reader are =
    fuel_numbers reader (row_of c.args.self.now) c.in_ok-items.items.list c.in_ok-numbers.numbers c.in_ok-items.ensures.items.list_is
    (c.in_ok-numbers.ensures.value reader are)

pub returns : goal.returns
returns c =
    then_months (row_of c.args.self.now) c.in_ok-items.items.list c.check_no_fuel.result c.in_ok-items.ensures.items.list_is
    c.in_ok-items.ensures.refusals c.in_ok-numbers.ensures.refusals c.check_no_fuel.ensures

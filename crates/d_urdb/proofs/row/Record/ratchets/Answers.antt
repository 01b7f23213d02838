use Rattle.std.proofs.lemmas.Result.{err_from_is_err_and}
use Rattle.d_urdb.specs.Shown.{row_of}
use Rattle.d_urdb.proofs.RatchetFacts.{list_refuses, item_refuses, name_refuses, month_refuses, sign_refuses, ratchets_pass, ratchet_numbers}
use Rattle.d_urdb.proofs.row.Record.ratchets.Goals as goal

pub returns-in_err-items-clause-refusals : goal.returns-in_err-items-clause-refusals
returns-in_err-items-clause-refusals c =
    let p = err_from_is_err_and c.from_residual.result c.from_residual.ensures.1 in
    rw (p.1, p.2) (list_refuses (row_of c.args.self.now) c.in_err-items.field-0.0 c.in_err-items.ensures.refusals)

pub returns-in_err-numbers-clause-refusals : goal.returns-in_err-numbers-clause-refusals
returns-in_err-numbers-clause-refusals c =
    let p = err_from_is_err_and c.from_residual-in_err-numbers.result c.from_residual-in_err-numbers.ensures.1 in
    rw (p.1, p.2) (item_refuses (row_of c.args.self.now) c.in_ok-items.items.list c.in_err-numbers.field-0.0 c.in_ok-items.ensures.items.list_is
    c.in_ok-items.ensures.refusals c.in_err-numbers.ensures.refusals)

pub returns-in_err-lookback-clause-refusals : goal.returns-in_err-lookback-clause-refusals
returns-in_err-lookback-clause-refusals c =
    let p = err_from_is_err_and c.from_residual-in_err-lookback.result c.from_residual-in_err-lookback.ensures.1 in
    rw (p.1, p.2) (name_refuses (row_of c.args.self.now) c.in_ok-items.items.list c.in_err-lookback.field-0.0 c.in_ok-items.ensures.items.list_is
    c.in_ok-items.ensures.refusals c.in_ok-numbers.ensures.refusals c.in_err-lookback.ensures.refusals)

pub check_fractions-requires-clause-numbers : goal.check_fractions-requires-clause-numbers
check_fractions-requires-clause-numbers c reader are =
    ratchet_numbers reader (row_of c.args.self.now) c.in_ok-items.items.list c.in_ok-numbers.numbers c.in_ok-items.ensures.items.list_is
    (c.in_ok-numbers.ensures.value reader are)

pub returns-in_err-check_fractions-clause-refusals :
    goal.returns-in_err-check_fractions-clause-refusals
returns-in_err-check_fractions-clause-refusals c =
    let p = err_from_is_err_and c.from_residual-in_err-check_fractions.result c.from_residual-in_err-check_fractions.ensures.1 in
    rw (p.1, p.2) (month_refuses (row_of c.args.self.now) c.in_ok-items.items.list c.in_err-check_fractions.field-0.0 c.in_ok-items.ensures.items.list_is
    c.in_ok-items.ensures.refusals c.in_ok-numbers.ensures.refusals c.in_ok-lookback.ensures.refusals c.in_err-check_fractions.ensures)

pub returns-in_err-check_lookback-clause-refusals :
    goal.returns-in_err-check_lookback-clause-refusals
returns-in_err-check_lookback-clause-refusals c =
    let p = err_from_is_err_and c.from_residual-in_err-check_lookback.result c.from_residual-in_err-check_lookback.ensures.1 in
    rw (p.1, p.2) (sign_refuses (row_of c.args.self.now) c.in_ok-items.items.list c.in_err-check_lookback.field-0.0 c.in_ok-items.ensures.items.list_is
    c.in_ok-items.ensures.refusals c.in_ok-numbers.ensures.refusals c.in_ok-lookback.ensures.refusals c.in_ok-check_fractions.ensures
    c.in_err-check_lookback.ensures)

pub fractions-requires-clause-numbers : goal.fractions-requires-clause-numbers
fractions-requires-clause-numbers c reader are =
    ratchet_numbers reader (row_of c.args.self.now) c.in_ok-items.items.list c.in_ok-numbers.numbers c.in_ok-items.ensures.items.list_is
    (c.in_ok-numbers.ensures.value reader are)

pub returns-clause-refusals : goal.returns-clause-refusals
returns-clause-refusals c =
    ratchets_pass (row_of c.args.self.now) c.in_ok-items.items.list c.in_ok-items.ensures.items.list_is c.in_ok-items.ensures.refusals
    c.in_ok-numbers.ensures.refusals c.in_ok-lookback.ensures.refusals c.in_ok-check_fractions.ensures c.in_ok-check_lookback.ensures

pub returns-clause-value : goal.returns-clause-value
returns-clause-value c = c.fractions.ensures.value

pub returns-clause-range : goal.returns-clause-range
returns-clause-range c = c.fractions.ensures.range

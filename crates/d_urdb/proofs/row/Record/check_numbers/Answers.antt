use Rattle.std.proofs.Common.{List, Option, ◌++◌, [], ◌∷◌}
use Rattle.d_urdb.specs.Shown.{row_of}
use Rattle.std.proofs.lemmas.Result.{err_from_is_err_and}
use Rattle.d_urdb.specs.declared.fault.Refused.{Refused}
use Rattle.d_columns.specs.declared.names.Part.TheVariants.{Rate, Adj, Sell}
use Rattle.d_urdb.specs.Numbers.{CellReader}
use Rattle.d_urdb.specs.Periods.{end_refusal, price_refusal}
use Rattle.d_urdb.proofs.RefusalOrder.{first_refuses, then_refuses, then_checks}
use Rattle.d_urdb.proofs.row.Record.check_numbers.Goals as goal

pub returns-in_err-check_end : goal.returns-in_err-check_end
returns-in_err-check_end c =
    let p = err_from_is_err_and c.from_residual.result c.from_residual.ensures.1 in
    let end : CellReader → List (Option Refused) = λ reader. end_refusal reader (row_of c.args.self.now) c.args.structure c.args.period c.args.tier ∷ [] in
    let rest : CellReader → List (Option Refused) = λ reader. price_refusal reader (row_of c.args.self.now) c.args.structure c.args.period c.args.tier Rate ∷ price_refusal reader (row_of c.args.self.now) c.args.structure c.args.period c.args.tier Adj ∷ price_refusal reader (row_of c.args.self.now) c.args.structure c.args.period c.args.tier Sell ∷ [] in
    rw (p.1, p.2) (first_refuses end rest c.in_err-check_end.field-0.0 c.in_err-check_end.ensures)

pub returns-in_err-check_number : goal.returns-in_err-check_number
returns-in_err-check_number c =
    let p = err_from_is_err_and c.from_residual-in_err-check_number.result c.from_residual-in_err-check_number.ensures.1 in
    let end : CellReader → List (Option Refused) = λ reader. end_refusal reader (row_of c.args.self.now) c.args.structure c.args.period c.args.tier ∷ [] in
    let rate : CellReader → List (Option Refused) = λ reader. price_refusal reader (row_of c.args.self.now) c.args.structure c.args.period c.args.tier Rate ∷ [] in
    let rest : CellReader → List (Option Refused) = λ reader. price_refusal reader (row_of c.args.self.now) c.args.structure c.args.period c.args.tier Adj ∷ price_refusal reader (row_of c.args.self.now) c.args.structure c.args.period c.args.tier Sell ∷ [] in
    let refused = c.in_err-check_number.field-0.0 in
    rw (p.1, p.2) (then_refuses end (λ reader. rate reader ++ rest reader) refused c.in_ok-check_end.ensures (first_refuses rate rest refused c.in_err-check_number.ensures))

pub returns-in_err-check_number-2 : goal.returns-in_err-check_number-2
returns-in_err-check_number-2 c =
    let p = err_from_is_err_and c.from_residual-in_err-check_number-2.result c.from_residual-in_err-check_number-2.ensures.1 in
    let end : CellReader → List (Option Refused) = λ reader. end_refusal reader (row_of c.args.self.now) c.args.structure c.args.period c.args.tier ∷ [] in
    let rate : CellReader → List (Option Refused) = λ reader. price_refusal reader (row_of c.args.self.now) c.args.structure c.args.period c.args.tier Rate ∷ [] in
    let adj : CellReader → List (Option Refused) = λ reader. price_refusal reader (row_of c.args.self.now) c.args.structure c.args.period c.args.tier Adj ∷ [] in
    let sell : CellReader → List (Option Refused) = λ reader. price_refusal reader (row_of c.args.self.now) c.args.structure c.args.period c.args.tier Sell ∷ [] in
    let refused = c.in_err-check_number-2.field-0.0 in
    rw (p.1, p.2) (then_refuses end (λ reader. rate reader ++ (adj reader ++ sell reader)) refused c.in_ok-check_end.ensures
    (then_refuses rate (λ reader. adj reader ++ sell reader) refused c.in_ok-check_number.ensures
    (first_refuses adj sell refused c.in_err-check_number-2.ensures)))

pub returns : goal.returns
returns c =
    let end : CellReader → List (Option Refused) = λ reader. end_refusal reader (row_of c.args.self.now) c.args.structure c.args.period c.args.tier ∷ [] in
    let rate : CellReader → List (Option Refused) = λ reader. price_refusal reader (row_of c.args.self.now) c.args.structure c.args.period c.args.tier Rate ∷ [] in
    let adj : CellReader → List (Option Refused) = λ reader. price_refusal reader (row_of c.args.self.now) c.args.structure c.args.period c.args.tier Adj ∷ [] in
    let sell : CellReader → List (Option Refused) = λ reader. price_refusal reader (row_of c.args.self.now) c.args.structure c.args.period c.args.tier Sell ∷ [] in
    let result = c.check_number-3.result in
    then_checks end (λ reader. rate reader ++ (adj reader ++ sell reader)) result c.in_ok-check_end.ensures
    (then_checks rate (λ reader. adj reader ++ sell reader) result c.in_ok-check_number.ensures
    (then_checks adj sell result c.in_ok-check_number-2.ensures c.check_number-3.ensures))

use Rattle.std.proofs.Common.{◌∙◌, ◌++◌}
use Rattle.std.proofs.lemmas.Result.{err_from_is_err_and}
use Rattle.d_urdb.specs.declared.cause.Cause.TheVariants as cause
use Rattle.d_urdb.specs.Adjustments.{coincident_refusals, reactive_name, fuel_refusals}
use Rattle.d_urdb.specs.Charges.{zero_refusals}
use Rattle.d_urdb.specs.Shown.{row_of}
use Rattle.d_urdb.proofs.RefusalOrder.{none_before, some_before, then_checks}
use Rattle.d_urdb.proofs.row.Record.check_adjustments.Goals as goal

pub returns-in_err-check_coincident : goal.returns-in_err-check_coincident
returns-in_err-check_coincident c =
    let p = err_from_is_err_and c.from_residual.result c.from_residual.ensures.1 in
    rw (p.1, p.2) (λ reader are. some_before _ _ _ (c.in_err-check_coincident.ensures reader are))

pub returns-in_err-check_zero : goal.returns-in_err-check_zero
returns-in_err-check_zero c =
    let p = err_from_is_err_and c.from_residual-in_err-check_zero.result c.from_residual-in_err-check_zero.ensures.1 in
    rw (p.1, p.2) (λ reader are. none_before _ _ (c.in_ok-check_coincident.ensures reader are) ∙ some_before _ _ _ (c.in_err-check_zero.ensures reader are))

pub returns : goal.returns
returns c =
    let row = row_of c.args.self.now in
    then_checks (λ reader. coincident_refusals reader row) (λ reader. zero_refusals reader row reactive_name cause.Reactive ++ fuel_refusals reader row) c.check_fuel.result
    c.in_ok-check_coincident.ensures
    (then_checks (λ reader. zero_refusals reader row reactive_name cause.Reactive) (λ reader. fuel_refusals reader row) c.check_fuel.result
    c.in_ok-check_zero.ensures c.check_fuel.ensures)

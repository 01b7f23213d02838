use Rattle.std.proofs.Common.{◌∙◌}
use Rattle.std.proofs.lemmas.Result.{err_from_is_err_and}
use Rattle.std.specs.Bool.{⊤}
use Rattle.d_cal.specs.declared.schedule.Schedule.{Schedule}
use Rattle.d_columns.specs.declared.names.Structure.TheVariants.{Demand}
use Rattle.d_urdb.specs.Periods.{period_refusals}
use Rattle.d_urdb.specs.Record.{demand_section}
use Rattle.d_urdb.specs.Refusals.{each}
use Rattle.d_urdb.specs.Shown.{row_of}
use Rattle.d_urdb.proofs.RefusalOrder.{none_before, some_before}
use Rattle.d_urdb.proofs.RowChecks.{fault_moves}
use Rattle.d_urdb.proofs.row.Record.check_demand.Goals as goal

pub returns-in_err-check_periods-clause-refusals : goal.returns-in_err-check_periods-clause-refusals
returns-in_err-check_periods-clause-refusals c =
    let p = err_from_is_err_and c.from_residual.result c.from_residual.ensures.1 in
    rw (p.1, p.2) (fault_moves ⊤ Schedule (λ reader. each 36 (period_refusals reader (row_of c.args.self.now) Demand)) (λ reader. demand_section reader (row_of c.args.self.now)) c.in_err-check_periods.field-0.0
    (λ reader are refused here. some_before _ _ _ (here)) c.in_err-check_periods.ensures.refusals)

pub returns-in_err-check_demand_unit-clause-refusals : goal.returns-in_err-check_demand_unit-clause-refusals
returns-in_err-check_demand_unit-clause-refusals c =
    let p = err_from_is_err_and c.from_residual-in_err-check_demand_unit.result c.from_residual-in_err-check_demand_unit.ensures.1 in
    rw (p.1, p.2) (λ reader are. none_before _ _ (c.in_ok-check_periods.ensures.refusals reader are) ∙ (some_before _ _ _ (c.in_err-check_demand_unit.ensures reader are)))

pub returns-in_err-hours-clause-refusals : goal.returns-in_err-hours-clause-refusals
returns-in_err-hours-clause-refusals c =
    let p = err_from_is_err_and c.from_residual-in_err-hours.result c.from_residual-in_err-hours.ensures.1 in
    rw (p.1, p.2) (λ reader are. none_before _ _ (c.in_ok-check_periods.ensures.refusals reader are) ∙ (none_before _ _ (c.in_ok-check_demand_unit.ensures reader are) ∙ (c.in_err-hours.ensures.refusals reader are)))

pub returns-clause-refusals : goal.returns-clause-refusals
returns-clause-refusals c = λ reader are. none_before _ _ (c.in_ok-check_periods.ensures.refusals reader are) ∙ (none_before _ _ (c.in_ok-check_demand_unit.ensures reader are) ∙ (c.in_ok-hours.ensures.refusals reader are))

use Rattle.std.proofs.Common.{◌∙◌, ℕ, List}
use Rattle.std.proofs.lemmas.Result.{err_from_is_err_and}
use Rattle.d_cal.specs.declared.schedule.Schedule.{Schedule}
use Rattle.d_urdb.specs.declared.terms.Accepted.{Accepted}
use Rattle.d_urdb.specs.Record.{row_refusals, energy_section, demand_section, flat_section}
use Rattle.d_urdb.specs.Shown.{row_of}
use Rattle.d_urdb.proofs.RefusalOrder.{none_before, some_before}
use Rattle.d_urdb.proofs.RowChecks.{fault_moves}
use Rattle.d_urdb.proofs.row.Record.check_row.Goals as goal

pub returns-in_err-energy_hours-clause-refusals : goal.returns-in_err-energy_hours-clause-refusals
unfolding row_refusals
returns-in_err-energy_hours-clause-refusals c =
    let p = err_from_is_err_and c.from_residual.result c.from_residual.ensures.1 in
    rw (p.1, p.2) (fault_moves Schedule Accepted (λ reader. energy_section reader (row_of c.args.self.now) c.args.rule) (λ reader. row_refusals reader (row_of c.args.self.now) c.args.rule) c.in_err-energy_hours.field-0.0
    (λ reader are refused here. some_before _ _ _ (here)) c.in_err-energy_hours.ensures.refusals)

pub returns-in_err-demand_hours-clause-refusals : goal.returns-in_err-demand_hours-clause-refusals
unfolding row_refusals
returns-in_err-demand_hours-clause-refusals c =
    let p = err_from_is_err_and c.from_residual-in_err-demand_hours.result c.from_residual-in_err-demand_hours.ensures.1 in
    rw (p.1, p.2) (fault_moves Schedule Accepted (λ reader. demand_section reader (row_of c.args.self.now)) (λ reader. row_refusals reader (row_of c.args.self.now) c.args.rule) c.in_err-demand_hours.field-0.0
    (λ reader are refused here. none_before _ _ (c.in_ok-energy_hours.ensures.refusals reader are) ∙ (some_before _ _ _ (here))) c.in_err-demand_hours.ensures.refusals)

pub returns-in_err-flat_months-clause-refusals : goal.returns-in_err-flat_months-clause-refusals
unfolding row_refusals
returns-in_err-flat_months-clause-refusals c =
    let p = err_from_is_err_and c.from_residual-in_err-flat_months.result c.from_residual-in_err-flat_months.ensures.1 in
    rw (p.1, p.2) (fault_moves (List ℕ) Accepted (λ reader. flat_section reader (row_of c.args.self.now)) (λ reader. row_refusals reader (row_of c.args.self.now) c.args.rule) c.in_err-flat_months.field-0.0
    (λ reader are refused here. none_before _ _ (c.in_ok-energy_hours.ensures.refusals reader are) ∙ (none_before _ _ (c.in_ok-demand_hours.ensures.refusals reader are) ∙ (some_before _ _ _ (here)))) c.in_err-flat_months.ensures.refusals)

pub returns-in_err-ratchet-clause-refusals : goal.returns-in_err-ratchet-clause-refusals
unfolding row_refusals
returns-in_err-ratchet-clause-refusals c =
    let p = err_from_is_err_and c.from_residual-in_err-ratchet.result c.from_residual-in_err-ratchet.ensures.1 in
    rw (p.1, p.2) (λ reader are. none_before _ _ (c.in_ok-energy_hours.ensures.refusals reader are) ∙ (none_before _ _ (c.in_ok-demand_hours.ensures.refusals reader are) ∙ (none_before _ _ (c.in_ok-flat_months.ensures.refusals reader are) ∙ (some_before _ _ _ (c.in_err-ratchet.ensures.refusals reader are)))))

pub returns-in_err-fixed-clause-refusals : goal.returns-in_err-fixed-clause-refusals
unfolding row_refusals
returns-in_err-fixed-clause-refusals c =
    let p = err_from_is_err_and c.from_residual-in_err-fixed.result c.from_residual-in_err-fixed.ensures.1 in
    rw (p.1, p.2) (λ reader are. none_before _ _ (c.in_ok-energy_hours.ensures.refusals reader are) ∙ (none_before _ _ (c.in_ok-demand_hours.ensures.refusals reader are) ∙ (none_before _ _ (c.in_ok-flat_months.ensures.refusals reader are) ∙ (none_before _ _ (c.in_ok-ratchet.ensures.refusals reader are) ∙ (some_before _ _ _ (c.in_err-fixed.ensures.refusals reader are))))))

pub returns-in_err-minimum-clause-refusals : goal.returns-in_err-minimum-clause-refusals
unfolding row_refusals
returns-in_err-minimum-clause-refusals c =
    let p = err_from_is_err_and c.from_residual-in_err-minimum.result c.from_residual-in_err-minimum.ensures.1 in
    rw (p.1, p.2) (λ reader are. none_before _ _ (c.in_ok-energy_hours.ensures.refusals reader are) ∙ (none_before _ _ (c.in_ok-demand_hours.ensures.refusals reader are) ∙ (none_before _ _ (c.in_ok-flat_months.ensures.refusals reader are) ∙ (none_before _ _ (c.in_ok-ratchet.ensures.refusals reader are) ∙ (none_before _ _ (c.in_ok-fixed.ensures.refusals reader are) ∙ (some_before _ _ _ (c.in_err-minimum.ensures.refusals reader are)))))))

pub returns-in_err-check_zero-clause-refusals : goal.returns-in_err-check_zero-clause-refusals
unfolding row_refusals
returns-in_err-check_zero-clause-refusals c =
    let p = err_from_is_err_and c.from_residual-in_err-check_zero.result c.from_residual-in_err-check_zero.ensures.1 in
    rw (p.1, p.2) (λ reader are. none_before _ _ (c.in_ok-energy_hours.ensures.refusals reader are) ∙ (none_before _ _ (c.in_ok-demand_hours.ensures.refusals reader are) ∙ (none_before _ _ (c.in_ok-flat_months.ensures.refusals reader are) ∙ (none_before _ _ (c.in_ok-ratchet.ensures.refusals reader are) ∙ (none_before _ _ (c.in_ok-fixed.ensures.refusals reader are) ∙ (none_before _ _ (c.in_ok-minimum.ensures.refusals reader are) ∙ (some_before _ _ _ (c.in_err-check_zero.ensures reader are))))))))

pub returns-in_err-check_adjustments-clause-refusals : goal.returns-in_err-check_adjustments-clause-refusals
unfolding row_refusals
returns-in_err-check_adjustments-clause-refusals c =
    let p = err_from_is_err_and c.from_residual-in_err-check_adjustments.result c.from_residual-in_err-check_adjustments.ensures.1 in
    rw (p.1, p.2) (λ reader are. none_before _ _ (c.in_ok-energy_hours.ensures.refusals reader are) ∙ (none_before _ _ (c.in_ok-demand_hours.ensures.refusals reader are) ∙ (none_before _ _ (c.in_ok-flat_months.ensures.refusals reader are) ∙ (none_before _ _ (c.in_ok-ratchet.ensures.refusals reader are) ∙ (none_before _ _ (c.in_ok-fixed.ensures.refusals reader are) ∙ (none_before _ _ (c.in_ok-minimum.ensures.refusals reader are) ∙ (none_before _ _ (c.in_ok-check_zero.ensures reader are) ∙ (c.in_err-check_adjustments.ensures reader are))))))))

pub returns-clause-refusals : goal.returns-clause-refusals
unfolding row_refusals
returns-clause-refusals c = λ reader are. none_before _ _ (c.in_ok-energy_hours.ensures.refusals reader are) ∙ (none_before _ _ (c.in_ok-demand_hours.ensures.refusals reader are) ∙ (none_before _ _ (c.in_ok-flat_months.ensures.refusals reader are) ∙ (none_before _ _ (c.in_ok-ratchet.ensures.refusals reader are) ∙ (none_before _ _ (c.in_ok-fixed.ensures.refusals reader are) ∙ (none_before _ _ (c.in_ok-minimum.ensures.refusals reader are) ∙ (none_before _ _ (c.in_ok-check_zero.ensures reader are) ∙ (c.in_ok-check_adjustments.ensures reader are)))))))

pub returns-clause-accepted : goal.returns-clause-accepted
returns-clause-accepted c = record {
  energy_rises = c.in_ok-energy_hours.ensures.rising;
  demand_rises = c.in_ok-demand_hours.ensures.rising;
  demand_prices = c.in_ok-demand_hours.ensures.prices;
  flat_rises = c.in_ok-flat_months.ensures.rising;
  flat_prices = c.in_ok-flat_months.ensures.prices;
  energy_hours = c.in_ok-energy_hours.ensures.hours;
  demand_hours = c.in_ok-demand_hours.ensures.hours;
  flat_months = c.in_ok-flat_months.ensures.value;
  months_in_range = c.in_ok-flat_months.ensures.range;
  ratchet = c.in_ok-ratchet.ensures.value;
  ratchet_in_range = c.in_ok-ratchet.ensures.range;
  fixed = c.in_ok-fixed.ensures.value;
  fixed_in_range = c.in_ok-fixed.ensures.range;
  minimum = c.in_ok-minimum.ensures.value;
  minimum_in_range = c.in_ok-minimum.ensures.range;
}

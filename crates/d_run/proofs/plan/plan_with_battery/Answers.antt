use Rattle.std.proofs.Common.{Ok, Err}
use Rattle.std.proofs.lemmas.Result.{err_from_is_err_and}
use Rattle.d_batt.specs.Storage.{Storage}
use Rattle.d_batt.specs.Shown.{storage_of}
use Rattle.d_batt.specs.declared.battery.Battery.{Battery as Stored}
use Rattle.d_run.specs.Answer.{IsPlanFor, RefusesBattery, MeansBattery, rows_in, longest_file}
use Rattle.d_run.specs.Replies.{HasValue, problem_of}
use Rattle.d_run.specs.declared.fault.Refusal.TheVariants.{LongBattery}
use Rattle.d_run.proofs.StageFacts.{stage_ends, stage_goes_on, reply_prepared, stops_here}
use Rattle.d_run.specs.declared.fault.Fault.TheVariants.{Memory}
use Rattle.d_run.proofs.FilesKnown.{battery_known}
use Rattle.d_run.proofs.plan.plan_with_battery.Goals as goal

pub returns-in_err-battery-clause-told : goal.returns-in_err-battery-clause-told
returns-in_err-battery-clause-told g c t =
    let p = err_from_is_err_and c.from_residual.result c.from_residual.ensures.1 in
    let x = g.D.Desk.scene c.args.desk.now in
    let rows = rows_in x.files c.args.battery.now in
    rw (p.1, p.2) (stage_ends c.args.battery.now longest_file LongBattery (RefusesBattery rows) (MeansBattery rows) (λ (storage : Storage). IsPlanFor (problem_of c.args.tariff.now c.args.meter.now c.args.request.now.prior_peak storage) c.args.budget c.args.request.now.label.now)
    {T = Stored} (HasValue {T = Stored} x.files c.args.battery.now longest_file (λ battery. MeansBattery rows (storage_of battery))) x _ _ (c.in_err-battery.ensures.told t))

pub returns-clause-told : goal.returns-clause-told
returns-clause-told g c t =
    let x = g.D.Desk.scene c.args.desk.now in
    let rows = rows_in x.files c.args.battery.now in
    let y = g.D.Desk.scene c.load_battery.new.desk in
    let loaded = c.in_ok-battery.ensures.told t in
    stage_goes_on c.args.battery.now longest_file LongBattery (RefusesBattery rows) (MeansBattery rows) (λ (storage : Storage). IsPlanFor (problem_of c.args.tariff.now c.args.meter.now c.args.request.now.prior_peak storage) c.args.budget c.args.request.now.label.now)
    x y _ (storage_of c.in_ok-battery.battery) (Ok c.in_ok-plan.field-0) (battery_known rows) loaded.0 loaded.1.0 loaded.1.1
    (reply_prepared (IsPlanFor (problem_of c.args.tariff.now c.args.meter.now c.args.request.now.prior_peak (storage_of c.in_ok-battery.battery)) c.args.budget c.args.request.now.label.now) y c.in_ok-plan.field-0 c.in_ok-plan.ensures)

pub returns-in_err-plan-clause-told : goal.returns-in_err-plan-clause-told
returns-in_err-plan-clause-told g c t =
    let p = err_from_is_err_and c.from_residual-in_err-plan.result c.from_residual-in_err-plan.ensures.1 in
    let x = g.D.Desk.scene c.args.desk.now in
    let rows = rows_in x.files c.args.battery.now in
    let y = g.D.Desk.scene c.load_battery.new.desk in
    let loaded = c.in_ok-battery.ensures.told t in
    rw (p.1, p.2) (stage_goes_on c.args.battery.now longest_file LongBattery (RefusesBattery rows) (MeansBattery rows)
    (λ (storage : Storage). IsPlanFor (problem_of c.args.tariff.now c.args.meter.now c.args.request.now.prior_peak storage) c.args.budget c.args.request.now.label.now)
    x y _ (storage_of c.in_ok-battery.battery) (Err Memory) (battery_known rows) loaded.0 loaded.1.0 loaded.1.1
    (stops_here (IsPlanFor (problem_of c.args.tariff.now c.args.meter.now c.args.request.now.prior_peak (storage_of c.in_ok-battery.battery)) c.args.budget c.args.request.now.label.now) y))

use Rattle.std.proofs.lemmas.Result.{err_from_is_err_and}
use Rattle.d_tariff.specs.Shown.{terms_of}
use Rattle.d_meter.specs.Shown.{metered_of}
use Rattle.d_run.specs.Prepared.{IsWithMeter}
use Rattle.d_run.specs.RecordText.{hourly_text}
use Rattle.d_run.proofs.SettleStages.{settled_prepares, unsettled_prepares}
use Rattle.d_run.proofs.request.answer_with_readings.Goals as goal

pub returns-in_err-check_settled-clause-told : goal.returns-in_err-check_settled-clause-told
returns-in_err-check_settled-clause-told g c t =
    let p = err_from_is_err_and c.from_residual.result c.from_residual.ensures.1 in
    let x = g.D.Desk.scene c.args.desk.now in
    let recorded = c.args.recorded.now in
    rw (p.1, p.2) (unsettled_prepares (hourly_text recorded.table) (terms_of recorded.tariff) (metered_of c.args.meter.now)
    (IsWithMeter c.args.request.now recorded.tariff c.args.meter.now x.files) x c.in_err-check_settled.field-0.0 c.in_err-check_settled.ensures.refused)

pub returns-clause-told : goal.returns-clause-told
returns-clause-told g c t =
    let x = g.D.Desk.scene c.args.desk.now in
    let recorded = c.args.recorded.now in
    settled_prepares (hourly_text recorded.table) (terms_of recorded.tariff) (metered_of c.args.meter.now)
    (IsWithMeter c.args.request.now recorded.tariff c.args.meter.now x.files) x _ _ c.in_ok-check_settled.ensures.settled (c.answer_task.ensures.told t)

use Rattle.std.proofs.Common.{subst}
use Rattle.std.proofs.lemmas.Result.{err_from_is_err_and}
use Rattle.d_desk.specs.Scene.{Files}
use Rattle.d_meter.specs.declared.meter.Meter.{Meter}
use Rattle.d_words.specs.Asking.{asked_of}
use Rattle.d_meter.specs.Meters.{Metered}
use Rattle.d_meter.specs.Shown.{metered_of}
use Rattle.d_run.specs.RecordText.{hourly_text}
use Rattle.d_tariff.specs.Shown.{terms_of}
use Rattle.d_run.specs.Answer.{IsFor, Settles, joined, RefusesReadings, MeansReadings, rows_in, longest_file}
use Rattle.d_run.specs.Replies.{HasValue, PreparesOne}
use Rattle.d_run.specs.declared.fault.Refusal.TheVariants.{LongReadings}
use Rattle.d_run.proofs.StageFacts.{stage_ends, stage_goes_on}
use Rattle.d_run.proofs.FilesKnown.{month_known}
use Rattle.d_run.proofs.request.answer_with_record.Goals as goal

pub returns-in_err-meter-clause-told : goal.returns-in_err-meter-clause-told
returns-in_err-meter-clause-told g c t =
    let p = err_from_is_err_and c.from_residual.result c.from_residual.ensures.1 in
    let x = g.D.Desk.scene c.args.desk.now in
    let asked = asked_of c.args.request.now in
    let rows = rows_in x.files asked.readings in
    let terms = terms_of c.args.recorded.now.tariff in
    let text = hourly_text c.args.recorded.now.table in
    rw (p.1, p.2) (stage_ends asked.readings longest_file LongReadings (RefusesReadings rows) (MeansReadings rows)
    (λ (metered : Metered). Settles text terms metered (IsFor x.files asked.label (joined terms metered asked.prior_peak) asked.wanted))
    {T = Meter} (HasValue {T = Meter} x.files asked.readings longest_file (λ meter. MeansReadings rows (metered_of meter))) x _ _ (c.in_err-meter.ensures.told t))

pub returns-clause-told : goal.returns-clause-told
returns-clause-told g c t =
    let x = g.D.Desk.scene c.args.desk.now in
    let asked = asked_of c.args.request.now in
    let rows = rows_in x.files asked.readings in
    let terms = terms_of c.args.recorded.now.tariff in
    let text = hourly_text c.args.recorded.now.table in
    let y = g.D.Desk.scene c.load_readings.new.desk in
    let z = g.D.Desk.scene c.answer_with_readings.new.desk in
    let loaded = c.in_ok-meter.ensures.told t in
    stage_goes_on asked.readings longest_file LongReadings (RefusesReadings rows) (MeansReadings rows)
    (λ (metered : Metered). Settles text terms metered (IsFor x.files asked.label (joined terms metered asked.prior_peak) asked.wanted))
    x y z (metered_of c.in_ok-meter.meter) c.answer_with_readings.result (month_known rows) loaded.0 loaded.1.0 loaded.1.1
    (let P : Files → Type 0 = λ files. PreparesOne (Settles text terms (metered_of c.in_ok-meter.meter) (IsFor files asked.label (joined terms (metered_of c.in_ok-meter.meter) asked.prior_peak) asked.wanted)) y z c.answer_with_readings.result in
    subst P loaded.0.files (c.answer_with_readings.ensures.told t))

use Rattle.std.proofs.Common.{Err, subst}
use Rattle.std.proofs.lemmas.Result.{err_from_is_err_and}
use Rattle.d_desk.specs.Scene.{Files}
use Rattle.d_batt.specs.Storage.{Storage}
use Rattle.d_batt.specs.Shown.{storage_of}
use Rattle.d_batt.specs.declared.battery.Battery.{Battery as Stored}
use Rattle.d_bill.specs.Inputs.{Inputs}
use Rattle.d_run.specs.declared.fault.Fault.TheVariants.{Memory}
use Rattle.d_run.specs.Answer.{Answer, IsBilled, RefusesBattery, MeansBattery, ReadsSchedule, rows_in, longest_file}
use Rattle.d_run.specs.Replies.{HasValue, PreparesOne, problem_of}
use Rattle.d_run.specs.declared.fault.Refusal.TheVariants.{LongBattery}
use Rattle.d_run.proofs.StageFacts.{stage_ends, stage_goes_on, stops_here}
use Rattle.d_run.proofs.FilesKnown.{battery_known}
use Rattle.d_run.proofs.bill.answer_bill.Goals as goal

pub returns-in_err-battery-clause-told : goal.returns-in_err-battery-clause-told
returns-in_err-battery-clause-told g c t =
    let p = err_from_is_err_and c.from_residual.result c.from_residual.ensures.1 in
    let x = g.D.Desk.scene c.args.desk.now in
    let rows = rows_in x.files c.args.battery.now in
    rw (p.1, p.2) (stage_ends c.args.battery.now longest_file LongBattery (RefusesBattery rows) (MeansBattery rows)
    (λ (storage : Storage). ReadsSchedule x.files c.args.schedule.now (problem_of c.args.tariff.now c.args.meter.now c.args.request.now.prior_peak storage) (IsBilled (problem_of c.args.tariff.now c.args.meter.now c.args.request.now.prior_peak storage) c.args.request.now.label.now))
    {T = Stored} (HasValue {T = Stored} x.files c.args.battery.now longest_file (λ battery. MeansBattery rows (storage_of battery))) x _ _ (c.in_err-battery.ensures.told t))

pub returns-in_err-problem-clause-told : goal.returns-in_err-problem-clause-told
returns-in_err-problem-clause-told g c t =
    let p = err_from_is_err_and c.from_residual-in_err-problem.result c.from_residual-in_err-problem.ensures.1 in
    let x = g.D.Desk.scene c.args.desk.now in
    let rows = rows_in x.files c.args.battery.now in
    let y = g.D.Desk.scene c.load_battery.new.desk in
    let loaded = c.in_ok-battery.ensures.told t in
    let problem = problem_of c.args.tariff.now c.args.meter.now c.args.request.now.prior_peak in
    let Next : Storage → Answer → Type 0 = λ storage. ReadsSchedule x.files c.args.schedule.now (problem storage) (IsBilled (problem storage) c.args.request.now.label.now) in
    rw (p.1, p.2) (stage_goes_on c.args.battery.now longest_file LongBattery (RefusesBattery rows) (MeansBattery rows) Next
    x y _ (storage_of c.in_ok-battery.battery) (Err Memory) (battery_known rows) loaded.0 loaded.1.0 loaded.1.1
    (stops_here (Next (storage_of c.in_ok-battery.battery)) y))

pub returns-clause-told : goal.returns-clause-told
returns-clause-told g c t =
    let x = g.D.Desk.scene c.args.desk.now in
    let rows = rows_in x.files c.args.battery.now in
    let y = g.D.Desk.scene c.load_battery.new.desk in
    let z = g.D.Desk.scene c.bill_of_problem.new.desk in
    let loaded = c.in_ok-battery.ensures.told t in
    let label = c.args.request.now.label.now in
    let schedule = c.args.schedule.now in
    let problem = problem_of c.args.tariff.now c.args.meter.now c.args.request.now.prior_peak in
    let i = problem (storage_of c.in_ok-battery.battery) in
    let Next : Storage → Answer → Type 0 = λ storage. ReadsSchedule x.files schedule (problem storage) (IsBilled (problem storage) label) in
    let P : Inputs → Type 0 = λ j. PreparesOne (ReadsSchedule y.files schedule j (IsBilled j label)) y z c.bill_of_problem.result in
    let Q : Files → Type 0 = λ files. PreparesOne (ReadsSchedule files schedule i (IsBilled i label)) y z c.bill_of_problem.result in
    stage_goes_on c.args.battery.now longest_file LongBattery (RefusesBattery rows) (MeansBattery rows) Next
    x y z (storage_of c.in_ok-battery.battery) c.bill_of_problem.result (battery_known rows) loaded.0 loaded.1.0 loaded.1.1
    (subst Q loaded.0.files (subst P c.in_ok-problem.ensures (c.bill_of_problem.ensures.told t)))

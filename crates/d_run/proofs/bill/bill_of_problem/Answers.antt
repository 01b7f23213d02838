use Rattle.std.proofs.Common.{List, ℕ, Vec, Ok, subst}
use Rattle.std.specs.declared.alloc.Global.{Global}
use Rattle.std.proofs.lemmas.Result.{err_from_is_err_and}
use Rattle.d_run.specs.Answer.{IsBilled, MeansSchedule, RefusesSchedule, rows_in, longest_file}
use Rattle.d_run.specs.Replies.{HasValue, IsReply}
use Rattle.d_run.specs.declared.fault.Refusal.TheVariants.{LongSchedule}
use Rattle.d_run.proofs.StageFacts.{stage_ends, stage_goes_on, reply_prepared}
use Rattle.d_run.proofs.FilesKnown.{schedule_known}
use Rattle.d_run.proofs.bill.bill_of_problem.Goals as goal

pub returns-in_err-modes-clause-told : goal.returns-in_err-modes-clause-told
returns-in_err-modes-clause-told g c t =
    let p = err_from_is_err_and c.from_residual.result c.from_residual.ensures.1 in
    let i = c.args.problem.now in
    let x = g.D.Desk.scene c.args.desk.now in
    let rows = rows_in x.files c.args.schedule.now in
    rw (p.1, p.2) (stage_ends c.args.schedule.now longest_file LongSchedule (RefusesSchedule i rows) (MeansSchedule i rows) (IsBilled i c.args.label.now)
    {T = Vec ℕ Global} (HasValue {T = Vec ℕ Global} x.files c.args.schedule.now longest_file (λ modes. MeansSchedule i rows modes.items)) x _ _ (c.in_err-modes.ensures.told t))

pub returns-clause-told : goal.returns-clause-told
returns-clause-told g c t =
    let i = c.args.problem.now in
    let x = g.D.Desk.scene c.args.desk.now in
    let rows = rows_in x.files c.args.schedule.now in
    let loaded = c.in_ok-modes.ensures.told t in
    stage_goes_on c.args.schedule.now longest_file LongSchedule (RefusesSchedule i rows) (MeansSchedule i rows) (IsBilled i c.args.label.now)
    x (g.D.Desk.scene c.load_schedule.new.desk) _ c.in_ok-modes.modes.items (Ok c.in_ok-schedule_bill.field-0) (schedule_known i rows c.intervals-count.ensures.range.storage) loaded.0 loaded.1.0 loaded.1.1
    (reply_prepared (IsBilled i c.args.label.now c.in_ok-modes.modes.items) (g.D.Desk.scene c.load_schedule.new.desk) c.in_ok-schedule_bill.field-0
    (let P : List ℕ → Type 0 = λ modes. IsReply (IsBilled i c.args.label.now modes) c.in_ok-schedule_bill.field-0 in subst P c.as_slice.ensures.value c.in_ok-schedule_bill.ensures))

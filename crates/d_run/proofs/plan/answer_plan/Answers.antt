use Rattle.std.proofs.lemmas.Result.{err_from_is_err_and}
use Rattle.d_run.specs.Answer.{no_storage}
use Rattle.d_run.specs.Prepared.{Plans}
use Rattle.d_run.specs.Replies.{problem_of}
use Rattle.d_run.proofs.PlanStages.{untiered_prepares, not_yet_prepares}
use Rattle.d_run.proofs.plan.answer_plan.Goals as goal

pub returns-in_err-check_plannable-clause-told : goal.returns-in_err-check_plannable-clause-told
returns-in_err-check_plannable-clause-told g c t =
    let p = err_from_is_err_and c.from_residual.result c.from_residual.ensures.1 in
    let x = g.D.Desk.scene c.args.desk.now in
    let problem = problem_of c.args.tariff.now c.args.meter.now c.args.request.now.prior_peak in
    rw (p.1, p.2) (not_yet_prepares (problem no_storage) (Plans c.args.battery.now c.args.budget c.args.request.now.label.now problem x.files) x c.in_err-check_plannable.field-0.0
    c.in_err-check_plannable.ensures.refused)

pub returns-clause-told : goal.returns-clause-told
returns-clause-told g c t =
    let x = g.D.Desk.scene c.args.desk.now in
    let problem = problem_of c.args.tariff.now c.args.meter.now c.args.request.now.prior_peak in
    untiered_prepares (problem no_storage) (Plans c.args.battery.now c.args.budget c.args.request.now.label.now problem x.files) x _ _
    c.in_ok-check_plannable.ensures.untiered (c.plan_with_battery.ensures.told t)

use Rattle.std.proofs.lemmas.Result.{err_from_is_err_and}
use Rattle.std.proofs.Common.{ℕ, ◌-◌, ◌+◌, ◌/◌, take, drop, arith, refl, ap, ◌∙◌}
use Rattle.d_cert.proofs.DayFacts.{only_month, front_month, days_begin, days_step, days_stop, days_end, take_min, drop_min}
use Rattle.d_cert.proofs.found.save_days.Goals as goal

pub loop-day-init : goal.loop-day-init
loop-day-init g c = record {
  within = omega arith;
  empty = c.requires.empty;
  sent = λ t. days_begin (1440 / c.minutes.result) (c.intervals-count.result / (1440 / c.minutes.result)) _ c.args.modes.now _ (omega arith);
  input = refl;
  output = refl;
  taken = refl;
  later = omega arith;
}

pub returns-in_err-save_day-clause-told : goal.returns-in_err-save_day-clause-told
returns-in_err-save_day-clause-told g c = λ t.
    let p = err_from_is_err_and c.from_residual.result c.from_residual.ensures.1 in
    rw p.1 (front_month c.args.problem.now c.minutes.result c.intervals-count.result c.args.modes.now _ _ c.minutes.ensures c.intervals-count.ensures.value
    (days_stop (1440 / c.minutes.result) _ (c.intervals-count.result / (1440 / c.minutes.result) - (c.loop-day.day + 1)) c.loop-day.day c.loop-day.rest.now c.split_at.result.0.now
    _ _ _ _ (omega (arith, c.loop-day-test.true))
    (c.split_at.ensures.front ∙ (ap (λ (k : ℕ). take k c.loop-day.rest.now) c.min.ensures ∙ take_min (1440 / c.minutes.result) c.loop-day.rest.now)) (c.loop-day.invariant.sent t) (c.in_err-save_day.ensures.told t)))

pub loop-day-preserved : goal.loop-day-preserved
loop-day-preserved g c = record {
  within = omega (arith, c.loop-day-test.true);
  empty = c.in_ok-save_day.ensures.empty;
  sent = λ t. days_step (1440 / c.minutes.result) _ (c.intervals-count.result / (1440 / c.minutes.result) - (c.loop-day.day + 1)) c.loop-day.day c.loop-day.rest.now
      c.split_at.result.0.now c.split_at.result.1.now _ _ _ _ (omega (arith, c.loop-day-test.true))
      (c.split_at.ensures.front ∙ (ap (λ (k : ℕ). take k c.loop-day.rest.now) c.min.ensures ∙ take_min (1440 / c.minutes.result) c.loop-day.rest.now))
      (c.split_at.ensures.back ∙ (ap (λ (k : ℕ). drop k c.loop-day.rest.now) c.min.ensures ∙ drop_min (1440 / c.minutes.result) c.loop-day.rest.now)) (c.loop-day.invariant.sent t) (c.in_ok-save_day.ensures.told t);
  input = cc;
  output = cc;
  taken = cc;
  later = omega (arith, c.loop-day.invariant.later, c.in_ok-save_day.ensures.cause.later);
}

pub returns-clause-told : goal.returns-clause-told
returns-clause-told g c = λ t.
    only_month c.args.problem.now c.minutes.result c.intervals-count.result c.args.modes.now _ _ c.minutes.ensures c.intervals-count.ensures.value
    (days_end (1440 / c.minutes.result) _ c.loop-day.day c.loop-day.rest.now _ _ _ (omega (arith, c.loop-day-test.false)) (c.loop-day.invariant.sent t))

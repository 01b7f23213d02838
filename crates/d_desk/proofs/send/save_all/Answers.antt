-- A call that counts n bytes makes the first `done` bytes the first `done + n`; one that fails leaves a front.
use Rattle.std.proofs.Common.{arith}
use Rattle.std.proofs.lemmas.Result.{err_from_is_err_and}
use Rattle.d_desk.proofs.StageLaws.{saves_step, saves_stop}
use Rattle.d_desk.proofs.send.save_all.Goals as goal

pub returns-in_err-count-clause-cut_short : goal.returns-in_err-count-clause-cut_short
returns-in_err-count-clause-cut_short g c = λ t.
    let p = err_from_is_err_and c.from_residual.result c.from_residual.ensures.1 in
    rw p.1 (saves_stop c.args.part.now _ c.loop-done.done _ (c.loop-done.invariant.sent t) (c.in_err-count.ensures.told t))

pub loop-done-preserved : goal.loop-done-preserved
loop-done-preserved g c = record {
  within = omega (arith, c.in_ok-count.ensures.count);
  sent = λ t. saves_step c.args.part.now c.loop-done.done c.in_ok-count.count
      (c.loop-done.invariant.sent t) (c.in_ok-count.ensures.told t);
  input = cc;
  output = cc;
  taken = cc;
  later = omega (arith, c.in_ok-count.ensures.cause.later);
}

use Rattle.std.proofs.Common.{arith, ◌∙◌}
use Rattle.d_text.proofs.Decimals.{zeros-all, zeros-more, zeros-stop, zeros-two, zeros-end}
use Rattle.d_text.proofs.text.kept_decimals.Goals as goal

pub loop-end-init : goal.loop-end-init
loop-end-init c = record { within = omega arith; two = omega arith; passed = zeros-all c.args.decimals.now }

pub loop-end-preserved : goal.loop-end-preserved
loop-end-preserved c = record {
  within = omega arith;
  two = omega arith;
  passed = zeros-more c.args.decimals.now c.loop-end.end c.loop-end-test.true c.loop-end.invariant.within c.if-decimals-end-eq48.true ∙ c.loop-end.invariant.passed;
}

pub returns-else-decimals-end-eq48-clause-kept : goal.returns-else-decimals-end-eq48-clause-kept
returns-else-decimals-end-eq48-clause-kept c =
    let stop = zeros-stop c.args.decimals.now c.loop-end.end c.loop-end-test.true c.loop-end.invariant.within c.if-decimals-end-eq48.false in
    zeros-end c.args.decimals.now c.loop-end.end c.loop-end.invariant.two (stop ∙ c.loop-end.invariant.passed)

pub returns-after-loop-end-clause-kept : goal.returns-after-loop-end-clause-kept
returns-after-loop-end-clause-kept c =
    zeros-end c.args.decimals.now c.loop-end.end c.loop-end.invariant.two (zeros-two c.args.decimals.now c.loop-end.end c.loop-end-test.false ∙ c.loop-end.invariant.passed)

use Rattle.std.proofs.Common.{◌∙◌, length, arith, ap}
use Rattle.d_bound.proofs.RateFacts.{rates_more, rates_all, rates_long}
use Rattle.d_bound.proofs.rates.prices_of.Goals as goal

pub loop-period-preserved : goal.loop-period-preserved
loop-period-preserved c =
    rates_more c.args.problem.now c.loop-period.period c.loop-period.rates.items c.push.new.self.items c.price_of.result
    c.loop-period.invariant c.price_of.ensures c.in_ok-push.ensures.items

pub returns-clause-value : goal.returns-clause-value
returns-clause-value c = c.loop-period.invariant ∙ rates_all c.args.problem.now c.loop-period.period (omega (arith, c.loop-period.auto.period-end))

pub returns-clause-long : goal.returns-clause-long
returns-clause-long c =
    let e = c.loop-period.invariant ∙ rates_all c.args.problem.now c.loop-period.period (omega (arith, c.loop-period.auto.period-end)) in
    ap length e ∙ rates_long c.args.problem.now

use Rattle.std.proofs.Common.{◌≡◌, ℕ, arith, subst, below_more}
use Rattle.std.proofs.lemmas.Result.{err_from_is_err_and}
use Rattle.d_urdb.specs.Shown.{row_of}
use Rattle.d_urdb.specs.Refusals.{each}
use Rattle.d_urdb.specs.Periods.{period_refusals}
use Rattle.d_urdb.specs.Checks.{Passes}
use Rattle.d_urdb.proofs.EachPeriod.{periods_yet, one_period, period_refuses}
use Rattle.d_urdb.proofs.row.Record.check_periods.Goals as goal

pub loop-period-init : goal.loop-period-init
loop-period-init c = record {
  passes = periods_yet (row_of c.args.self.now) c.args.structure;
  rising = λ period below. absurd (omega (arith, below));
  prices = λ period below. absurd (omega (arith, below));
}

pub returns-in_err-check_period-clause-refusals : goal.returns-in_err-check_period-clause-refusals
returns-in_err-check_period-clause-refusals c =
    let p = err_from_is_err_and c.from_residual.result c.from_residual.ensures.1 in
    rw (p.1, p.2) (period_refuses (row_of c.args.self.now) c.args.structure c.loop-period.period c.in_err-check_period.field-0.0 (omega arith) c.loop-period.invariant.passes c.in_err-check_period.ensures.refusals)

pub loop-period-preserved : goal.loop-period-preserved
loop-period-preserved c = record {
  passes = one_period (row_of c.args.self.now) c.args.structure c.loop-period.period c.loop-period.invariant.passes c.in_ok-check_period.ensures.refusals;
  rising = below_more _ _ c.loop-period.invariant.rising c.in_ok-check_period.ensures.rising;
  prices = below_more _ _ c.loop-period.invariant.prices c.in_ok-check_period.ensures.prices;
}

pub returns-clause-refusals : goal.returns-clause-refusals
returns-clause-refusals c =
    let all : c.loop-period.period ≡ 36 = omega arith in
    subst (λ (n : ℕ). Passes (λ reader. each n (period_refusals reader (row_of c.args.self.now) c.args.structure))) all c.loop-period.invariant.passes

pub returns-clause-rising : goal.returns-clause-rising
returns-clause-rising c period within = c.loop-period.invariant.rising period (omega (arith, within))

pub returns-clause-prices : goal.returns-clause-prices
returns-clause-prices c period within = c.loop-period.invariant.prices period (omega (arith, within))

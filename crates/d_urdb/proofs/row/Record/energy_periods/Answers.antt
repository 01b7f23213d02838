use Rattle.std.proofs.Common.{arith}
use Rattle.d_urdb.specs.Shown.{row_of}
use Rattle.d_urdb.proofs.EnergyFacts.{period_more, prices_more, all_periods}
use Rattle.d_urdb.proofs.row.Record.energy_periods.Goals as goal

pub loop-period-preserved : goal.loop-period-preserved
loop-period-preserved c = (
  λ reader are.
      period_more reader (row_of c.args.self.now) c.loop-period.period c.loop-period.periods c.energy_period.result c.add.new.self c.in_ok-add.ensures.ok
      (c.loop-period.invariant.0 reader are) (c.energy_period.ensures.value reader are),
  prices_more c.loop-period.periods c.energy_period.result c.add.new.self c.in_ok-add.ensures.ok c.loop-period.invariant.1 c.energy_period.ensures.prices,
)

pub returns-clause-value : goal.returns-clause-value
returns-clause-value c = λ reader are.
    all_periods reader (row_of c.args.self.now) c.loop-period.period c.loop-period.periods (omega arith) (c.loop-period.invariant.0 reader are)

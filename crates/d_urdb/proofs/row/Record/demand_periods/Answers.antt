use Rattle.std.proofs.Common.{arith}
use Rattle.d_urdb.specs.Shown.{row_of}
use Rattle.d_urdb.proofs.DemandFacts.{tiers_more, prices_more, all_lists}
use Rattle.d_urdb.proofs.row.Record.demand_periods.Goals as goal

pub loop-period-preserved : goal.loop-period-preserved
loop-period-preserved c = (
  λ reader are.
      tiers_more reader (row_of c.args.self.now) c.args.structure c.loop-period.period c.loop-period.lists c.demand_tiers.result c.add.new.self c.in_ok-add.ensures.ok
      (c.loop-period.invariant.0 reader are) (c.demand_tiers.ensures.value reader are),
  prices_more c.loop-period.lists c.demand_tiers.result c.add.new.self c.in_ok-add.ensures.ok c.loop-period.invariant.1 c.demand_tiers.ensures.prices,
)

pub returns-clause-value : goal.returns-clause-value
returns-clause-value c = λ reader are.
    all_lists reader (row_of c.args.self.now) c.args.structure c.loop-period.period c.loop-period.lists (omega arith) (c.loop-period.invariant.0 reader are)

use Rattle.std.proofs.Common.{sym, ◌∙◌}
use Rattle.d_urdb.specs.Shown.{row_of}
use Rattle.d_urdb.proofs.EnergyFacts.{no_period, some_period}
use Rattle.d_urdb.proofs.row.Record.energy_period.Goals as goal

pub returns-then-not-has_tier-clause-value : goal.returns-then-not-has_tier-clause-value
returns-then-not-has_tier-clause-value c = λ reader are. no_period reader (row_of c.args.self.now) c.args.period (sym c.has_tier.ensures ∙ c.if-not-has_tier.true)

pub returns-clause-value : goal.returns-clause-value
returns-clause-value c = λ reader are.
    some_period reader (row_of c.args.self.now) c.args.period c.tiers-tiers.result c.sell_of-sell.result (sym c.has_tier.ensures ∙ c.if-not-has_tier.false)
    (c.tiers-tiers.ensures.value reader are) (c.sell_of-sell.ensures.value reader are)

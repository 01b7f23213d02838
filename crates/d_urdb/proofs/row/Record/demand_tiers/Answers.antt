use Rattle.std.proofs.Common.{sym, ◌∙◌}
use Rattle.d_urdb.specs.Shown.{row_of}
use Rattle.d_urdb.proofs.DemandFacts.{no_tiers, some_tiers, in_range}
use Rattle.d_urdb.proofs.row.Record.demand_tiers.Goals as goal

pub returns-then-not-has_tier-clause-value : goal.returns-then-not-has_tier-clause-value
returns-then-not-has_tier-clause-value c = λ reader are.
    no_tiers reader (row_of c.args.self.now) c.args.structure c.args.period (sym c.has_tier.ensures ∙ c.if-not-has_tier.true)

pub returns-clause-value : goal.returns-clause-value
returns-clause-value c = λ reader are.
    some_tiers reader (row_of c.args.self.now) c.args.structure c.args.period c.tiers.result (sym c.has_tier.ensures ∙ c.if-not-has_tier.false)
    (c.tiers.ensures.value reader are)

pub returns-clause-prices : goal.returns-clause-prices
returns-clause-prices c =
    in_range (row_of c.args.self.now) c.args.structure c.args.period c.tiers.result c.requires.demand c.requires.prices c.tiers.ensures.value c.tiers.ensures.prices

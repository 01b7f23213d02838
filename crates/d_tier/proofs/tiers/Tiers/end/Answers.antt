use Rattle.d_tier.proofs.TableFacts.{end-last-taken, end-range-taken}
use Rattle.d_tier.proofs.tiers.Tiers.end.Goals as goal

pub returns-clause-last : goal.returns-clause-last
returns-clause-last c = end-last-taken _ _ _ c.args.tier _ c.self.view_is c.self.invariant.2 c.requires

pub returns-clause-range : goal.returns-clause-range
returns-clause-range c = end-range-taken _ _ _ c.args.tier _ c.self.view_is c.self.invariant.2 c.requires

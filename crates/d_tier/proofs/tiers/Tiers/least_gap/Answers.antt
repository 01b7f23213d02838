use Rattle.std.proofs.Common.{rules, ◌≡◌, List, subst, pos}
use Rattle.d_tier.specs.declared.tier.Tier.{Tier}
use Rattle.d_tier.specs.Tables.{AreTiersFrom}
use Rattle.d_tier.specs.Gaps.{least_gap}
use Rattle.d_tier.proofs.GapFacts.{least_gap_within}
use Rattle.d_tier.proofs.tiers.Tiers.least_gap.Goals as goal

pub returns-clause-size : goal.returns-clause-size
returns-clause-size c m k n fair flat range =
    let table : AreTiersFrom (pos 0) c.args.self.now = subst (λ (l : List Tier). AreTiersFrom (pos 0) l) c.self.view_is c.self.invariant.2.whole in
    let value : c.least_gap_of.result ≡ least_gap c.args.self.now c.args.low c.args.high c.args.slope = search rules in
    rw value (least_gap_within m k n c.args.self.now c.args.low c.args.high c.args.slope table fair flat c.requires.low c.requires.order range)

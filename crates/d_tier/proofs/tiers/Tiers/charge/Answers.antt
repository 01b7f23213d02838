use Rattle.std.proofs.Common.{rules, ◌≡◌, List, subst, pos}
use Rattle.d_tier.specs.declared.tier.Tier.{Tier}
use Rattle.d_tier.specs.Tables.{AreTiersFrom}
use Rattle.d_tier.specs.Charges.{tier_charge}
use Rattle.d_tier.proofs.ChargeFacts.{charge_within}
use Rattle.d_tier.proofs.tiers.Tiers.charge.Goals as goal

pub returns-clause-size : goal.returns-clause-size
returns-clause-size c m n fair range =
    let table : AreTiersFrom (pos 0) c.args.self.now = subst (λ (l : List Tier). AreTiersFrom (pos 0) l) c.self.view_is c.self.invariant.2.whole in
    let value : c.charge_of.result ≡ tier_charge c.args.self.now c.args.amount = search rules in
    rw value (charge_within m n c.args.self.now c.args.amount table fair range)

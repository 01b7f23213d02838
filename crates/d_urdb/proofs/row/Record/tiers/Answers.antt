use Rattle.std.proofs.Common.{◌≡◌, ◌-◌, ◌+◌, ◌∷◌, [], ◌∙◌, ap, arith}
use Rattle.d_tier.specs.Tables.{open_tier}
use Rattle.d_urdb.specs.Shown.{row_of}
use Rattle.d_urdb.specs.Periods.{tiers_to}
use Rattle.d_urdb.proofs.TierRise.{first_tiers, one_price}
use Rattle.d_urdb.proofs.row.Record.tiers.Goals as goal

pub loop-tier-init : goal.loop-tier-init
loop-tier-init c = (
  λ reader are. c.one-tiers.ensures ∙ ap (λ price. open_tier price ∷ []) (c.price_of.ensures.value reader are) ∙ first_tiers reader (row_of c.args.self.now) c.args.structure c.args.period,
  rw c.one-tiers.ensures (one_price c.price_of.result c.price_of.ensures.range),
)

pub loop-tier-preserved : goal.loop-tier-preserved
loop-tier-preserved c =
    let back : c.loop-tier.tier ≡ c.loop-tier.tier + 1 - 1 = omega arith in (
      λ reader are. c.add_tier.ensures.value reader are ∙ ap (tiers_to reader (row_of c.args.self.now) c.args.structure c.args.period) back,
      c.add_tier.ensures.prices,
    )

pub returns-clause-value : goal.returns-clause-value
returns-clause-value c = λ reader are.
    let last : c.loop-tier.tier - 1 ≡ 15 = omega arith in
    c.loop-tier.invariant.0 reader are ∙ ap (tiers_to reader (row_of c.args.self.now) c.args.structure c.args.period) last

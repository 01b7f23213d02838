use Rattle.std.proofs.Common.{◌≡◌, ℤ, ◌≤ℤ◌, to_z, of_z, w64, sym, subst, ◌∙◌}
use Rattle.std.proofs.Math.Path.{ap₂}
use Rattle.std.specs.Int.{int_min}
use Rattle.std.proofs.lemmas.Int.{to_z-of_z}
use Rattle.d_tier.specs.Gaps.{least_gap}
use Rattle.d_tier.proofs.GapFacts.{IsLeastTo, least_none, least_more, least_all}
use Rattle.d_tier.proofs.charges.least_gap_of.Goals as goal

pub loop-tier-init : goal.loop-tier-init
loop-tier-init c =
    let low = to_z w64 (of_z w64 c.args.low) in
    let high = to_z w64 (of_z w64 c.args.high) in
    let low_is : low ≡ c.args.low = to_z-of_z w64 c.args.low c.ranges.low in
    let high_is : high ≡ c.args.high = to_z-of_z w64 c.args.high c.ranges.high in
    let order : low ≤ℤ high = rw (low_is, high_is) c.requires.order in
    subst (λ (z : ℤ). IsLeastTo c.args.tiers.now low high c.args.slope 0 z) (sym (c.least-least.ensures ∙ ap₂ int_min c.gap_of.ensures c.gap_of-2.ensures))
    (least_none c.args.tiers.now low high c.args.slope order)

pub loop-tier-preserved : goal.loop-tier-preserved
loop-tier-preserved c =
    let new = c.least_with_end-least.ensures in
    least_more c.args.tiers.now (to_z w64 (of_z w64 c.args.low)) (to_z w64 (of_z w64 c.args.high)) c.args.slope c.loop-tier.tier-index c.loop-tier.least c.least_with_end-least.result c.tier-item.result
    c.loop-tier.invariant c.loop-tier-test.true c.tier-item.is new.below new.reached new.at_end

pub returns : goal.returns
returns c =
    let low = to_z w64 (of_z w64 c.args.low) in
    let high = to_z w64 (of_z w64 c.args.high) in
    let low_is : low ≡ c.args.low = to_z-of_z w64 c.args.low c.ranges.low in
    let high_is : high ≡ c.args.high = to_z-of_z w64 c.args.high c.ranges.high in
    least_all c.args.tiers.now low high c.args.slope c.loop-tier.tier-index c.loop-tier.least c.requires.tiers (rw low_is c.requires.low) (rw (low_is, high_is) c.requires.order) c.loop-tier-test.false c.loop-tier.invariant
    ∙ ap₂ (λ (l h : ℤ). least_gap c.args.tiers.now l h c.args.slope) low_is high_is

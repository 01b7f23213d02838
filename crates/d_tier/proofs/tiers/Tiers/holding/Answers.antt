use Rattle.std.proofs.Common.{to_z, of_z, w64, sym, ap, ◌∙◌}
use Rattle.std.proofs.lemmas.Int.{to_z-of_z}
use Rattle.d_tier.specs.TierEnds.{ends_by, holding}
use Rattle.d_tier.proofs.EndFacts.{found_here, found_later, found_end}
use Rattle.d_tier.proofs.tiers.Tiers.holding.Goals as goal

pub returns-then-not-ends_at_most-clause-value : goal.returns-then-not-ends_at_most-clause-value
returns-then-not-ends_at_most-clause-value c =
    let x = to_z w64 (of_z w64 c.args.amount) in
    found_here c.args.self.now c.loop-tier.tier c.count-last.result x c.count-last.ensures.count c.loop-tier-test.true
    (ap (λ z. ends_by z x) (sym c.end.ensures.value) ∙ (sym c.ends_at_most.ensures ∙ c.if-not-ends_at_most.true)) c.loop-tier.invariant
    ∙ ap (holding c.args.self.now) (to_z-of_z w64 c.args.amount c.ranges.amount)

pub loop-tier-preserved : goal.loop-tier-preserved
loop-tier-preserved c =
    let x = to_z w64 (of_z w64 c.args.amount) in
    found_later c.args.self.now c.loop-tier.tier c.count-last.result x c.count-last.ensures.count c.loop-tier-test.true
    (ap (λ z. ends_by z x) (sym c.end.ensures.value) ∙ (sym c.ends_at_most.ensures ∙ c.if-not-ends_at_most.false)) c.loop-tier.invariant

pub returns-clause-value : goal.returns-clause-value
returns-clause-value c =
    let x = to_z w64 (of_z w64 c.args.amount) in
    found_end c.args.self.now c.loop-tier.tier c.count-last.result x c.count-last.ensures.table c.count-last.ensures.count c.loop-tier-test.false
    c.loop-tier.auto.tier-end c.loop-tier.invariant
    ∙ ap (holding c.args.self.now) (to_z-of_z w64 c.args.amount c.ranges.amount)

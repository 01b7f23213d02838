use Rattle.std.proofs.Common.{rules, to_z, of_z, w64, sym, subst, ◌+◌}
use Rattle.std.proofs.lemmas.Int.{to_z-of_z}
use Rattle.d_tier.specs.Steps.{IsLowestTo}
use Rattle.d_tier.proofs.EndFacts.{inner_step}
use Rattle.d_tier.proofs.tiers.Tiers.inner_end.Goals as goal

pub loop-tier-preserved : goal.loop-tier-preserved
loop-tier-preserved c =
    let low = to_z w64 (of_z w64 c.args.low) in
    let high = to_z w64 (of_z w64 c.args.high) in
    subst (λ z. IsLowestTo c.args.self.now low high (c.loop-tier.tier + 1) z) (sym (to_z-of_z w64 c.lower-lowest.result (search rules)))
    (inner_step c.args.self.now low high c.loop-tier.tier _ c.lower-lowest.result c.end.result c.loop-tier.invariant c.end.ensures.value c.lower-lowest.ensures)

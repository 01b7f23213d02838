use Rattle.std.proofs.Common.{rules, ◌≡◌, FitsSigned, w64, arith, ap, ◌∙◌}
use Rattle.std.proofs.lemmas.Int.{ints, clamps, to_z-of_z}
use Rattle.d_tier.specs.Gaps.{gap_at}
use Rattle.d_tier.proofs.charges.least_with_end.Goals as goal

pub returns-clause-at_end : goal.returns-clause-at_end
returns-clause-at_end c =
    let fits : FitsSigned w64 c.in-Some.end = search rules in
    let is : c.gap_of.result ≡ gap_at c.args.tiers.now c.args.slope c.in-Some.end = c.gap_of.ensures ∙ ap (gap_at c.args.tiers.now c.args.slope) (to_z-of_z w64 c.in-Some.end fits) in
    let least = c.least.ensures in
    rw c.in-Some.is (λ above below. omega (arith, ints, clamps, is, least))

use Rattle.std.proofs.Common.{◌+◌, sym, ◌∙◌, arith, FitsSigned, w64, rules}
use Rattle.std.proofs.lemmas.Int.{ints, to_z-of_z}
use Rattle.d_tier.proofs.TableFacts.{with_tier-same, array_added, Adds, array_added-Adds}
use Rattle.d_tier.proofs.tiers.Tiers.add.Goals as goal

pub returns-then-eq-clause-table : goal.returns-then-eq-clause-table
returns-then-eq-clause-table c =
    let same = sym c.eq.ensures ∙ c.if-eq.true in
    with_tier-same c.args.end c.args.price c.self.inside.tiers _ c.self.inside.count _ c.self.view_is c.self.invariant same

adds : (c : goal.After-self-1)
    → Adds c.args.end c.args.price c.args.self.now (array_added c.args.end c.args.price c.self.inside.tiers c.self.inside.count c.index-self-last-2.result) (c.self.inside.count + 1)
adds c =
    let other = sym c.eq.ensures ∙ c.if-eq.false in
    array_added-Adds c.args.end c.args.price c.self.inside.tiers _ c.self.inside.count c.index-self-last.result _
    c.self.view_is c.self.invariant c.requires.room c.requires.above c.requires.range other

pub invariant_of-self : goal.invariant_of-self
invariant_of-self c =
    let fits : FitsSigned w64 c.args.end = search rules in
    rw (to_z-of_z w64 c.args.end fits) (adds c).holds

pub returns-clause-table : goal.returns-clause-table
returns-clause-table c =
    let fits : FitsSigned w64 c.args.end = search rules in
    rw (to_z-of_z w64 c.args.end fits) (adds c).made

pub returns-clause-end : goal.returns-clause-end
returns-clause-end c =
    let fits : FitsSigned w64 c.args.end = search rules in
    rw (to_z-of_z w64 c.args.end fits, (adds c).begins) (omega (arith, ints))

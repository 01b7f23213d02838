use Rattle.std.proofs.Common.{◌∙◌, ap}
use Rattle.d_columns.specs.Past.{PartCell}
use Rattle.d_columns.proofs.PastFacts.{not_before}
use Rattle.d_columns.proofs.past.PastCell.is_before.Goals as goal

pub returns-else-eq : goal.returns-else-eq
returns-else-eq c =
    c.if-eq.false
    ∙ not_before c.self.inside.tier.now c.other.inside.tier.now c.args.self.now c.args.other.now c.self.invariant c.other.invariant
    (ap (λ (cell : PartCell). cell.tier) c.self.view_is) (ap (λ (cell : PartCell). cell.tier) c.other.view_is)
    (λ less. let below = c.if-is_below.ensures.1 less in cc) c.if-eq.ensures

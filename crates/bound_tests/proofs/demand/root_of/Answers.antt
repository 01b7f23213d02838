use Rattle.std.proofs.Common.{sym, subst}
use Rattle.d_box.specs.declared.space.Space.{Space}
use Rattle.d_bound.specs.Roots.{IsProblemBox}
use Rattle.bound_tests.proofs.demand.root_of.Goals as goal

pub returns : goal.returns
returns c =
    subst (λ (space : Space). IsProblemBox c.args.bounder.now.candidates space) (sym c.root.ensures)
    (c.roots_are_boxes.ensures c.args.problem.now c.args.bounder.now.candidates (record { range = c.requires.bounder.range; none = c.requires.untiered }) c.requires.bounder.candidates)

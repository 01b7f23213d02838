use Rattle.std.proofs.Common.{sym, subst, ◌∙◌}
use Rattle.d_bound.specs.Roots.{IsProblemBox}
use Rattle.d_search.proofs.RuleFacts.{root_is}
use Rattle.d_search.proofs.boxes.root_at.Goals as goal

pub returns-clause-root : goal.returns-clause-root
returns-clause-root c = c.root.ensures ∙ sym (root_is c.args.problem.now c.args.bounder.now.candidates)

pub returns-clause-boxed : goal.returns-clause-boxed
returns-clause-boxed c =
    subst (IsProblemBox c.args.bounder.now.candidates) (sym c.root.ensures)
    (c.roots_are_boxes.ensures c.args.problem.now c.args.bounder.now.candidates (record { range = c.requires.bounder.range; none = c.requires.untiered })
    c.requires.bounder.candidates)

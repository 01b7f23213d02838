use Rattle.d_search.proofs.RuleFacts.{place_found, cut_found}
use Rattle.d_search.proofs.boxes.place_of.Goals as goal

pub returns-clause-place : goal.returns-clause-place
returns-clause-place c =
    place_found c.args.problem.now c.args.candidates.now c.requires.untiered c.args.space.now c.split_of.result (rw c.groups.ensures.value at c.split_of.ensures)

pub returns-clause-cut : goal.returns-clause-cut
returns-clause-cut c =
    cut_found c.splits_are_cuts.ensures c.args.problem.now c.groups.ensures.range c.args.candidates.now c.requires.long c.args.space.now c.requires.boxed.box
    c.split_of.result (rw c.groups.ensures.value at c.split_of.ensures)

use Rattle.d_box.specs.Candidates.{lists_of}
use Rattle.d_bound.proofs.DrawnFacts.{candidates_are}
use Rattle.d_bound.proofs.roots.candidates_of.Goals as goal

pub returns : goal.returns
returns c = candidates_are c.args.problem.now (lists_of c.in_ok-lists.lists.items) c.from_lists.result c.in_ok-lists.ensures c.from_lists.ensures.same c.from_lists.ensures.rises

use Rattle.d_search.proofs.GrowthFacts.{held_empty}
use Rattle.d_search.proofs.leaves.add_root.Goals as goal

pub add_leaf-requires-clause-held : goal.add_leaf-requires-clause-held
add_leaf-requires-clause-held c = held_empty c.args.problem.now c.args.bounder.now.candidates c.args.growth.now c.requires.empty c.requires.few

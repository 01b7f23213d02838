use Rattle.std.proofs.Common.{refl, arith}
use Rattle.d_bound.proofs.DrawnFacts.{root_none, root_all}
use Rattle.d_bound.proofs.roots.root_of.Goals as goal

pub loop-group-init : goal.loop-group-init
loop-group-init c = root_none c.args.candidates.now _ refl refl

pub returns : goal.returns
returns c = root_all c.args.candidates.now c.loop-group.group c.loop-group.space c.loop-group.invariant (omega arith)

use Rattle.d_bound.proofs.DrawnFacts.{vectors_more}
use Rattle.d_bound.proofs.roots.drawn_lists.Goals as goal

pub loop-group-preserved : goal.loop-group-preserved
loop-group-preserved c =
    vectors_more c.args.problem.now c.loop-group.group c.loop-group.lists.items c.push.new.self.items c.in_ok-list.list c.loop-group.invariant c.in_ok-list.ensures c.in_ok-push.ensures.items

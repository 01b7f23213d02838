use Rattle.d_box.specs.Candidates.{lists_of}
use Rattle.d_bound.specs.RootSteps.{AreDrawnLists}
use Rattle.d_bound.proofs.roots.drawn_lists.Given as goal

-- the lists so far
abbrev pub invariant-loop-group : goal.invariant-loop-group
invariant-loop-group l = AreDrawnLists l.problem l.group (lists_of l.lists.items)

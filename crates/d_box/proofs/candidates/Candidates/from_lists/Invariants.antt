use Rattle.d_box.specs.Candidates.{lists_of}
use Rattle.d_box.specs.Steps.{AreCandidatesTo}
use Rattle.d_box.proofs.candidates.Candidates.from_lists.Given as goal

abbrev pub invariant-loop-group : goal.invariant-loop-group
invariant-loop-group l = AreCandidatesTo (lists_of l.fn.lists.items) (lists_of l.lists.items) l.group

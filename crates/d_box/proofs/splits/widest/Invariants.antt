use Rattle.d_box.specs.Steps.{IsWidestTo}
use Rattle.d_box.proofs.splits.widest.Given as goal

abbrev pub invariant-loop-group : goal.invariant-loop-group
invariant-loop-group l = IsWidestTo l.space l.groups l.group l.found l.greatest

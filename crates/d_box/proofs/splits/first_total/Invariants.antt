use Rattle.d_box.specs.Splits.{HasNoTotal}
use Rattle.d_box.proofs.splits.first_total.Given as goal

abbrev pub invariant-loop-index : goal.invariant-loop-index
invariant-loop-index l = HasNoTotal l.space l.energy l.index

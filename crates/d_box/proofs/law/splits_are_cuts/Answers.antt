use Rattle.d_box.proofs.HalfFacts.{cuts}
use Rattle.d_box.proofs.law.splits_are_cuts.Goals as goal

pub returns : goal.returns
returns c = cuts

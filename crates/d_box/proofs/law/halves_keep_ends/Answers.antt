use Rattle.d_box.proofs.HalfFacts.{keep_ends}
use Rattle.d_box.proofs.law.halves_keep_ends.Goals as goal

pub returns : goal.returns
returns c = keep_ends

use Rattle.d_bound.proofs.BoxFacts.{boxes_first}
use Rattle.d_bound.proofs.law.boxes_have_first.Goals as goal

pub returns : goal.returns
returns c = boxes_first

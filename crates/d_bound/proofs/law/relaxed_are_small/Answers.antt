use Rattle.d_bound.proofs.SizeFacts.{relaxed_small}
use Rattle.d_bound.proofs.law.relaxed_are_small.Goals as goal

pub returns : goal.returns
returns c = relaxed_small

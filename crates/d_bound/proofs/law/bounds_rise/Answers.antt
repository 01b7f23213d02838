use Rattle.d_bound.proofs.NodeFacts.{bounds_rises}
use Rattle.d_bound.proofs.law.bounds_rise.Goals as goal

pub returns : goal.returns
returns c = bounds_rises

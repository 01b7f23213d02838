use Rattle.d_bound.proofs.BoxFacts.{bounds_below}
use Rattle.d_bound.proofs.law.bounds_are_below.Goals as goal

pub returns : goal.returns
returns c = bounds_below

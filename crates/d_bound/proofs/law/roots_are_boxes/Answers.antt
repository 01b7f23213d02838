use Rattle.d_bound.proofs.RootFacts.{roots_boxes}
use Rattle.d_bound.proofs.law.roots_are_boxes.Goals as goal

pub returns : goal.returns
returns c = roots_boxes

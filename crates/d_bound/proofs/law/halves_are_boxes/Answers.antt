use Rattle.d_bound.proofs.RootFacts.{halves_boxes}
use Rattle.d_bound.proofs.law.halves_are_boxes.Goals as goal

pub returns : goal.returns
returns c = halves_boxes

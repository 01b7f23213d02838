use Rattle.d_box.proofs.HalfFacts.{boxes}
use Rattle.d_box.proofs.law.halves_are_boxes.Goals as goal

pub returns : goal.returns
returns c = boxes

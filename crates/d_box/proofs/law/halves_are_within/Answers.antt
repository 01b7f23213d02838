use Rattle.d_box.proofs.HalfFacts.{parts}
use Rattle.d_box.proofs.law.halves_are_within.Goals as goal

pub returns : goal.returns
returns c = parts

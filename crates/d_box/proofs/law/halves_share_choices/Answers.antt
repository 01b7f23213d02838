use Rattle.d_box.proofs.CombinationFacts.{shared}
use Rattle.d_box.proofs.law.halves_share_choices.Goals as goal

pub returns : goal.returns
returns c = shared

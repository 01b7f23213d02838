use Rattle.d_box.proofs.ListFacts.{range_has}
use Rattle.d_box.proofs.law.ranges_have_candidates.Goals as goal

pub returns : goal.returns
returns c = range_has

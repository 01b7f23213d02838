use Rattle.d_bound.proofs.NodeFacts.{points_meets}
use Rattle.d_bound.proofs.law.points_meet.Goals as goal

pub returns : goal.returns
returns c = points_meets

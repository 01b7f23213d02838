use Rattle.d_bound.proofs.RootFacts.{roots_holds}
use Rattle.d_bound.proofs.law.roots_hold.Goals as goal

pub returns : goal.returns
returns c = roots_holds

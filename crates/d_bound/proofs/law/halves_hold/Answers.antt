use Rattle.d_bound.proofs.RootFacts.{halves_holds}
use Rattle.d_bound.proofs.law.halves_hold.Goals as goal

pub returns : goal.returns
returns c = halves_holds

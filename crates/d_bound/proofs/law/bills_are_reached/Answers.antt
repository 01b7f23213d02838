use Rattle.d_bound.proofs.BoxFacts.{bills_reached}
use Rattle.d_bound.proofs.law.bills_are_reached.Goals as goal

pub returns : goal.returns
returns c = bills_reached

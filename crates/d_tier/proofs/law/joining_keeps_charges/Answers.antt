use Rattle.d_tier.proofs.JoinFacts.{joining_keeps}
use Rattle.d_tier.proofs.law.joining_keeps_charges.Goals as goal

pub returns : goal.returns
returns c = joining_keeps

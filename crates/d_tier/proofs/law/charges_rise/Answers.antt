use Rattle.d_tier.proofs.RiseFacts.{rising}
use Rattle.d_tier.proofs.law.charges_rise.Goals as goal

pub returns : goal.returns
returns c = rising

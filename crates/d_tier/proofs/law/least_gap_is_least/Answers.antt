use Rattle.d_tier.proofs.LeastFacts.{least_gap_law}
use Rattle.d_tier.proofs.law.least_gap_is_least.Goals as goal

pub returns : goal.returns
returns c = least_gap_law

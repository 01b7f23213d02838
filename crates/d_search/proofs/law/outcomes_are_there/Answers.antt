use Rattle.d_search.proofs.ThereFacts.{outcome_there}
use Rattle.d_search.proofs.law.outcomes_are_there.Goals as goal

pub returns : goal.returns
returns c = outcome_there

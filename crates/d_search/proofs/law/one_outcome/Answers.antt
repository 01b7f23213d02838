use Rattle.d_search.proofs.SameFacts.{outcome_same}
use Rattle.d_search.proofs.law.one_outcome.Goals as goal

pub returns : goal.returns
returns c = outcome_same

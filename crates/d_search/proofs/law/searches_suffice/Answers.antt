use Rattle.d_search.proofs.SearchFacts.{search_suffices}
use Rattle.d_search.proofs.law.searches_suffice.Goals as goal

pub returns : goal.returns
returns c = search_suffices

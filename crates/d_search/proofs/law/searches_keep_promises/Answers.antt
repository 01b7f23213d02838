use Rattle.d_search.proofs.SearchFacts.{search_promise}
use Rattle.d_search.proofs.law.searches_keep_promises.Goals as goal

pub returns : goal.returns
returns c = search_promise

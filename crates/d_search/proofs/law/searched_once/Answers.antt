use Rattle.d_search.proofs.SearchFacts.{searched_once}
use Rattle.d_search.proofs.law.searched_once.Goals as goal

pub returns : goal.returns
returns c = searched_once

use Rattle.d_search.proofs.ShapeFacts.{searches_form}
use Rattle.d_search.proofs.law.searches_form_trees.Goals as goal

pub returns : goal.returns
returns c = searches_form

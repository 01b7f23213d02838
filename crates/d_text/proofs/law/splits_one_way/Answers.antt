use Rattle.d_text.proofs.GridLaws.{grid_same, list_same}
use Rattle.d_text.proofs.law.splits_one_way.Goals as goal

pub returns-clause-grid : goal.returns-clause-grid
returns-clause-grid c = grid_same

pub returns-clause-list : goal.returns-clause-list
returns-clause-list c = list_same

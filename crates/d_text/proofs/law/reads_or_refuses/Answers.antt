use Rattle.d_text.proofs.OnceLaws.{decimal_once, floor_once, grid_once, list_once}
use Rattle.d_text.proofs.law.reads_or_refuses.Goals as goal

pub returns-clause-decimal : goal.returns-clause-decimal
returns-clause-decimal c = decimal_once

pub returns-clause-floor : goal.returns-clause-floor
returns-clause-floor c = floor_once

pub returns-clause-grid : goal.returns-clause-grid
returns-clause-grid c = grid_once

pub returns-clause-list : goal.returns-clause-list
returns-clause-list c = list_once

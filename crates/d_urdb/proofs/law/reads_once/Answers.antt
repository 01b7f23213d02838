use Rattle.d_urdb.proofs.OneReader.{one_reader}
use Rattle.d_urdb.proofs.OutcomeFacts.{one_outcome}
use Rattle.d_urdb.proofs.PeriodLaw.{as_in_grids}
use Rattle.d_urdb.proofs.law.reads_once.Goals as goal

pub returns-clause-cells : goal.returns-clause-cells
returns-clause-cells c = one_reader

pub returns-clause-outcome : goal.returns-clause-outcome
returns-clause-outcome c = one_outcome

pub returns-clause-periods : goal.returns-clause-periods
returns-clause-periods c = as_in_grids

use Rattle.d_batt.proofs.Readers.{one_reader, one_outcome}
use Rattle.d_batt.proofs.law.reads_once.Goals as goal

pub returns-clause-cells : goal.returns-clause-cells
returns-clause-cells c = one_reader

pub returns-clause-outcome : goal.returns-clause-outcome
returns-clause-outcome c = one_outcome

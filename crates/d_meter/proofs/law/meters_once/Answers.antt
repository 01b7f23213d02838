use Rattle.d_meter.proofs.OneReader.{one_reader, one_outcome}
use Rattle.d_meter.proofs.law.meters_once.Goals as goal

pub returns-clause-cells : goal.returns-clause-cells
returns-clause-cells c = one_reader

pub returns-clause-outcome : goal.returns-clause-outcome
returns-clause-outcome c = one_outcome

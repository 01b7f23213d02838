use Rattle.d_cal.proofs.StartLaws.{start_once}
use Rattle.d_cal.proofs.law.names_one_start.Goals as goal

pub returns : goal.returns
returns c = start_once

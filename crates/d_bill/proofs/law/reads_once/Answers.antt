use Rattle.d_bill.proofs.ScheduleFound.{read_once}
use Rattle.d_bill.proofs.law.reads_once.Goals as goal

pub returns : goal.returns
returns c = read_once

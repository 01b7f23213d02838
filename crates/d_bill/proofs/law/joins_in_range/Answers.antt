use Rattle.d_bill.proofs.JoinLaw.{joins_in_range}
use Rattle.d_bill.proofs.law.joins_in_range.Goals as goal

pub returns : goal.returns
returns c = joins_in_range

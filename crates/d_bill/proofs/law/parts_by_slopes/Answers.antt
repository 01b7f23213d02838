use Rattle.d_bill.proofs.SlopeFacts.{parted_by_slopes}
use Rattle.d_bill.proofs.law.parts_by_slopes.Goals as goal

pub returns : goal.returns
returns c = parted_by_slopes

use Rattle.d_bill.proofs.PartFacts.{parted_sum}
use Rattle.d_bill.proofs.law.parts_sum.Goals as goal

pub returns : goal.returns
returns c = parted_sum

use Rattle.d_box.proofs.PlaceOfSplit.{splits_same}
use Rattle.d_box.proofs.law.splits_are_one.Goals as goal

pub returns : goal.returns
returns c = splits_same

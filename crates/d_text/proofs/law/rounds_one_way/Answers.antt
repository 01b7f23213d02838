use Rattle.d_text.proofs.DecimalLaws.{floor_same}
use Rattle.d_text.proofs.law.rounds_one_way.Goals as goal

pub returns : goal.returns
returns c = floor_same

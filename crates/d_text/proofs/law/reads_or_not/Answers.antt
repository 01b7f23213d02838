use Rattle.d_text.proofs.DecimalLaws.{value_or_none}
use Rattle.d_text.proofs.law.reads_or_not.Goals as goal

pub returns : goal.returns
returns c = value_or_none

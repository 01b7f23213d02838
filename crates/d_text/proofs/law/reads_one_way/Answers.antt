use Rattle.d_text.proofs.OneReading.{one-reading}
use Rattle.d_text.proofs.law.reads_one_way.Goals as goal

pub returns : goal.returns
returns c = one-reading

use Rattle.d_certline.proofs.OneLine.{line_one}
use Rattle.d_certline.proofs.law.one_line.Goals as goal

pub returns : goal.returns
returns c = line_one

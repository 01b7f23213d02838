use Rattle.d_run.proofs.OneAnswer.{one_answer}
use Rattle.d_run.proofs.law.answers_once.Goals as goal

pub returns : goal.returns
returns c = one_answer

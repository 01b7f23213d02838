use Rattle.d_words.proofs.WordPlaces.{same_command}
use Rattle.d_words.proofs.job.read_job.Goals as goal

pub returns-then-eq : goal.returns-then-eq
returns-then-eq c = same_command _ _ _ _ c.if-eq.ensures c.read_plan.ensures

pub returns-then-eq-2 : goal.returns-then-eq-2
returns-then-eq-2 c = same_command _ _ _ _ c.if-eq-2.ensures c.read_bill.ensures

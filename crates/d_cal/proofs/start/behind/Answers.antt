use Rattle.d_cal.proofs.Moments.{behind_none, behind_some}
use Rattle.d_cal.proofs.start.behind.Goals as goal

pub returns-clause-none : goal.returns-clause-none
returns-clause-none c = behind_none c.args.text.now c.args.front.now c.strip_prefix.result c.strip_prefix.ensures.cases

pub returns-clause-some : goal.returns-clause-some
returns-clause-some c = behind_some c.args.text.now c.args.front.now c.strip_prefix.result c.strip_prefix.ensures.cases

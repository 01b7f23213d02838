use Rattle.d_batt.proofs.Accepted.{accepts}
use Rattle.d_batt.proofs.law.accepts_batteries.Goals as goal

pub returns : goal.returns
returns c = accepts

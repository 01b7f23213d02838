use Rattle.d_urdb.proofs.JoinedTiers.{charges_alike}
use Rattle.d_urdb.proofs.law.charges_as_recorded.Goals as goal

pub returns : goal.returns
returns c = charges_alike

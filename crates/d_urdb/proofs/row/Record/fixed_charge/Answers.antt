use Rattle.d_urdb.specs.Charges.{fixed_of}
use Rattle.d_urdb.proofs.row.Record.fixed_charge.Goals as goal

pub returns-clause-value : goal.returns-clause-value
unfolding fixed_of
returns-clause-value c = c.charge.ensures.value

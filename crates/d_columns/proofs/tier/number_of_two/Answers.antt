use Rattle.d_columns.proofs.TierFacts.{two_value}
use Rattle.d_columns.proofs.tier.number_of_two.Goals as goal

pub returns : goal.returns
returns c = two_value c.args.digits.now c.requires.number c.requires.two

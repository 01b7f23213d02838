use Rattle.std.proofs.Common.{arith}
use Rattle.d_certline.proofs.DigitFacts.{whole_printed}
use Rattle.d_certline.proofs.law.wholes_are_printed.Goals as goal

pub returns : goal.returns
returns c = λ z small. whole_printed z (omega (arith, small))

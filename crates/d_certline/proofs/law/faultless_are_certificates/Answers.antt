use Rattle.d_certline.proofs.MadeFacts.{made}
use Rattle.d_certline.proofs.OnlyFacts.{only}
use Rattle.d_certline.proofs.law.faultless_are_certificates.Goals as goal

pub returns-clause-only : goal.returns-clause-only
returns-clause-only c = only

pub returns-clause-made : goal.returns-clause-made
returns-clause-made c = made

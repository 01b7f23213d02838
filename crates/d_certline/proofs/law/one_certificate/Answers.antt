use Rattle.d_certline.proofs.OneCertificate.{certificate_one}
use Rattle.d_certline.proofs.law.one_certificate.Goals as goal

pub returns : goal.returns
returns c = certificate_one

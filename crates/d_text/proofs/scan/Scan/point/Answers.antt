use Rattle.std.proofs.Common.{◌≡◌, Some, rules}
use Rattle.d_text.specs.Scan.{after_point}
use Rattle.d_text.specs.declared.scan.Phase.TheVariants.{LonePoint}
use Rattle.d_text.proofs.PhaseFacts.{read-lone}
use Rattle.d_text.proofs.scan.Scan.point.Goals as goal

pub returns-in-Start-clause-read : goal.returns-in-Start-clause-read
returns-in-Start-clause-read c = λ text h.
    let e : after_point c.args.self.phase ≡ Some LonePoint = search rules in
    record {
      digits = h.digits;
      power = h.power;
      keeps = h.keeps;
      power_is = h.power_is;
      read = read-lone c.args.self.phase text c.args.self.minus h.digits c.args.self.behind c.args.self.down h.power e h.read;
    }

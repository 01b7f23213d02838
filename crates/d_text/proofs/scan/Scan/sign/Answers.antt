use Rattle.std.proofs.Common.{◌≡◌, rules}
use Rattle.d_text.specs.Scan.{IsRead}
use Rattle.d_text.specs.declared.scan.Phase.TheVariants.{Marked}
use Rattle.d_text.proofs.ReadFacts.{marked-sign}
use Rattle.d_text.proofs.scan.Scan.sign.Goals as goal

pub returns-in-Marked-clause-read : goal.returns-in-Marked-clause-read
returns-in-Marked-clause-read c = λ text h.
    let e : c.args.self.phase ≡ Marked = search rules in
    let read : IsRead Marked text c.args.self.minus h.digits c.args.self.behind c.args.self.down h.power = rw e at h.read in
    record {
      digits = h.digits;
      power = h.power;
      keeps = h.keeps;
      power_is = h.power_is;
      read = marked-sign text c.args.self.minus h.digits c.args.self.behind h.power c.args.self.down c.args.minus read;
    }

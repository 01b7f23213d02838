use Rattle.std.proofs.Common.{◌≡◌, Some, rules}
use Rattle.d_text.specs.Scan.{after_mark}
use Rattle.d_text.specs.declared.scan.Phase.TheVariants.{Marked}
use Rattle.d_text.proofs.PhaseFacts.{read-mark}
use Rattle.d_text.proofs.scan.Scan.mark.Goals as goal

pub returns-in-Whole-clause-read : goal.returns-in-Whole-clause-read
returns-in-Whole-clause-read c = λ text mark is h.
    let e : after_mark c.args.self.phase ≡ Some Marked = search rules in
    record {
      digits = h.digits;
      power = h.power;
      keeps = h.keeps;
      power_is = h.power_is;
      read = read-mark c.args.self.phase text c.args.self.minus h.digits c.args.self.behind c.args.self.down h.power mark is e h.read;
    }

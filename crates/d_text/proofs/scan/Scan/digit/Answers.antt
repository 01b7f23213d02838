use Rattle.std.proofs.Common.{◌≡◌, ◌+◌, ◌*◌, ◌^◌, ◌∙◌, ℕ, min, arith, rules}
use Rattle.d_text.specs.Scan.{after_digit}
use Rattle.d_text.specs.declared.scan.Phase.TheVariants.{Whole, Fraction, Power}
use Rattle.d_text.proofs.PhaseFacts.{read-whole, read-fraction, read-power}
use Rattle.d_text.proofs.scan.Scan.digit.Goals as goal

capped : (x p d : ℕ) → p ≡ min x (10 ^ 30) → min (p * 10 + d) (10 ^ 30) ≡ min (x * 10 + d) (10 ^ 30)
capped x p d e = omega arith

pub returns-in-Start-clause-read : goal.returns-in-Start-clause-read
returns-in-Start-clause-read c = λ text h.
    let e : after_digit c.args.self.phase ≡ Whole = search rules in
    record {
      digits = h.digits * 10 + c.args.digit;
      power = h.power;
      keeps = c.push.ensures.value h.digits h.keeps;
      power_is = h.power_is;
      read = read-whole c.args.self.phase text c.args.self.minus h.digits c.args.self.behind c.args.self.down h.power c.args.digit c.requires.digit e h.read;
    }

pub returns-in-LonePoint-clause-read : goal.returns-in-LonePoint-clause-read
returns-in-LonePoint-clause-read c = λ text h.
    let e : after_digit c.args.self.phase ≡ Fraction = search rules in
    record {
      digits = h.digits * 10 + c.args.digit;
      power = h.power;
      keeps = c.push-in-LonePoint.ensures.value h.digits h.keeps;
      power_is = h.power_is;
      read = read-fraction c.args.self.phase text c.args.self.minus h.digits c.args.self.behind c.args.self.down h.power c.args.digit c.requires.digit e h.read;
    }

pub returns-in-Marked-clause-read : goal.returns-in-Marked-clause-read
returns-in-Marked-clause-read c = λ text h.
    let e : after_digit c.args.self.phase ≡ Power = search rules in
    record {
      digits = h.digits;
      power = h.power * 10 + c.args.digit;
      keeps = h.keeps;
      power_is = c.power_with.ensures ∙ capped h.power c.args.self.power c.args.digit h.power_is;
      read = read-power c.args.self.phase text c.args.self.minus h.digits c.args.self.behind c.args.self.down h.power c.args.digit c.requires.digit e h.read;
    }

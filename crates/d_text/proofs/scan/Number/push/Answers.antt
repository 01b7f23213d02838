use Rattle.std.proofs.Common.{◌≡◌, ◌∙◌, sym, true, false, arith, inl, inr}
use Rattle.std.proofs.lemmas.Bool.Decides.{nat_tests}
use Rattle.d_text.proofs.ReadFacts.{keeps-long}
use Rattle.d_text.proofs.scan.Number.push.Goals as goal

pub returns-then-self-clause-value : goal.returns-then-self-clause-value
returns-then-self-clause-value c = λ number k.
    keeps-long number c.args.self.top c.args.self.dropped c.args.digit c.args.self.lost c.args.self.lost c.requires.digit (omega arith) k
    (λ e. absurd (let h : true ≡ false = sym c.if-self.true ∙ e in cc)) (λ e. inl e)

pub returns-else-self-clause-value : goal.returns-else-self-clause-value
returns-else-self-clause-value c = λ number k.
    keeps-long number c.args.self.top c.args.self.dropped c.args.digit c.args.self.lost _ c.requires.digit (omega arith) k
    (λ e. (c.if-self.false, grind (arith, nat_tests))) (λ e. inr (grind (arith, nat_tests)))

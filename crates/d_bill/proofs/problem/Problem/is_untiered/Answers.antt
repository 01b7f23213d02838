use Rattle.std.proofs.Common.{refl, sym, ◌∙◌, arith}
use Rattle.d_bill.specs.Slopes.{tiered_at}
use Rattle.d_bill.proofs.TieredFacts.{numbers_none, numbers_some, one_more}
use Rattle.d_bill.proofs.problem.Problem.is_untiered.Goals as goal

pub loop-period-init : goal.loop-period-init
loop-period-init c k below = absurd (omega arith)

pub returns-then-is_tiered : goal.returns-then-is_tiered
returns-then-is_tiered c =
    (λ never. absurd (cc), λ none. absurd (numbers_some 36 c.loop-period.period (tiered_at c.args.self.now) c.loop-period-test.true (sym c.if-is_tiered.ensures) none))

pub loop-period-preserved : goal.loop-period-preserved
loop-period-preserved c = one_more c.loop-period.period (tiered_at c.args.self.now) c.loop-period.invariant (sym c.is_tiered.ensures ∙ c.if-is_tiered.false)

pub returns : goal.returns
returns c = (λ _. numbers_none 36 (tiered_at c.args.self.now) (λ k below. c.loop-period.invariant k (let over = c.loop-period-test.false in omega arith)), λ _. refl)

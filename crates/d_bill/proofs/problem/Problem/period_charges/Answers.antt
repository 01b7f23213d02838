use Rattle.std.proofs.Common.{rules, ◌≡◌, ℕ, ℤ, pos, sym, subst, ap, ◌∙◌, arith}
use Rattle.d_num.specs.Sums.{sum_of_first}
use Rattle.d_bill.specs.Bills.{period_charge}
use Rattle.d_bill.specs.Counting.{total_limit}
use Rattle.d_bill.proofs.ChargeFacts.{IsChargedTo, charged_none, charged_more, charged_fits, total_limit_small}
use Rattle.d_bill.proofs.problem.Problem.period_charges.Goals as goal
use Rattle.d_bill.proofs.problem.Problem.period_charges.Goals.{After-loop-period}

pub loop-period-init : goal.loop-period-init
loop-period-init c =
    let zero : c.unwrap-sum.result ≡ pos 0 = search rules in
    subst (λ (z : ℤ). IsChargedTo 0 (period_charge c.args.self.now c.args.tally.now) (total_limit c.args.tally.now) z) (sym zero) (charged_none (period_charge c.args.self.now c.args.tally.now) (total_limit c.args.tally.now))

pub plus-sum-requires : goal.plus-sum-requires
plus-sum-requires c =
    charged_fits c.loop-period.period (period_charge c.args.self.now c.args.tally.now) (total_limit c.args.tally.now) c.loop-period.sum c.period_charge.result (let below = c.loop-period-test.true in omega arith)
    c.loop-period.invariant c.period_charge.ensures.small (λ k low. total_limit_small c.args.self.now k c.args.tally.now c.period_charge.ensures.range (let below = c.loop-period-test.true in omega arith) c.requires)

pub loop-period-preserved : goal.loop-period-preserved
loop-period-preserved c =
    charged_more c.loop-period.period (period_charge c.args.self.now c.args.tally.now) (total_limit c.args.tally.now) c.loop-period.sum c.period_charge.result c.plus-sum.result
    c.loop-period.invariant c.period_charge.ensures.value c.period_charge.ensures.small c.plus-sum.ensures

-- all periods are charged
whole : (c : After-loop-period) → c.loop-period.period ≡ 36
whole c = let within = c.loop-period.auto.period-end in let over = c.loop-period-test.false in omega arith

pub returns-clause-value : goal.returns-clause-value
returns-clause-value c = c.loop-period.invariant.is ∙ ap (λ (n : ℕ). sum_of_first n (period_charge c.args.self.now c.args.tally.now)) (whole c)

pub returns-clause-small : goal.returns-clause-small
returns-clause-small c number below = c.loop-period.invariant.small number (omega (arith, whole c))

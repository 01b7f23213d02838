use Rattle.std.proofs.Common.{◌≡◌, ◌+ℤ◌, ◌-ℤ◌, ◌^◌, sym, ap, ap₂, subst, ◌∙◌}
use Rattle.d_num.specs.Amount.{IsWithin}
use Rattle.d_num.specs.Sums.{sum_of_first}
use Rattle.d_bill.specs.Totals.{Tallied}
use Rattle.d_bill.specs.Bills.{period_charge, group_charges}
use Rattle.d_bill.proofs.BoundFacts.{IsSmallSum, sum_small}
use Rattle.d_bill.proofs.problem.Problem.sum.Goals as goal
use Rattle.d_bill.proofs.problem.Problem.sum.Goals.{After-fixed, After-minus-arg-1}

-- the sizes of the parts
sizes : (c : After-fixed) → IsSmallSum c.args.self.now.fixed (sum_of_first 36 (period_charge c.args.self.now c.args.tally.now)) c.args.tally.now.credit (group_charges c.args.self.now c.args.tally.now)
sizes c = sum_small c.args.self.now c.args.tally.now c.fixed.ensures.range c.requires c.period_charges-periods.ensures.small c.group_charges-groups.ensures.small

pub plus-requires : goal.plus-requires
plus-requires c =
    subst (IsWithin (10 ^ 37)) (sym (ap₂ ◌+ℤ◌ c.fixed.ensures.value c.period_charges-periods.ensures.value)) (sizes c).charged

-- what the fixed charge and the periods come to, less the credit
less_is : (c : After-minus-arg-1) → c.plus.result -ℤ c.tally.inside.credit ≡ (c.args.self.now.fixed +ℤ sum_of_first 36 (period_charge c.args.self.now c.args.tally.now)) -ℤ c.args.tally.now.credit
less_is c = ap₂ ◌-ℤ◌ (c.plus.ensures ∙ ap₂ ◌+ℤ◌ c.fixed.ensures.value c.period_charges-periods.ensures.value) (ap (λ (x : Tallied). x.credit) c.tally.view_is)

pub minus-requires : goal.minus-requires
minus-requires c = subst (IsWithin (10 ^ 37)) (sym (less_is c)) (sizes (goal.at.minus-requires c).After-fixed).less

pub plus-requires-2 : goal.plus-requires-2
plus-requires-2 c =
    let less = c.minus.ensures ∙ less_is (goal.at.plus-requires-2 c).After-minus-arg-1 in
    subst (IsWithin (10 ^ 37)) (sym (ap₂ ◌+ℤ◌ less c.group_charges-groups.ensures.value)) (sizes (goal.at.plus-requires-2 c).After-fixed).money

pub returns-clause-range : goal.returns-clause-range
returns-clause-range c =
    let less = c.minus.ensures ∙ less_is (goal.at.returns-clause-range c).After-minus-arg-1 in
    subst (IsWithin (10 ^ 35)) (sym (c.plus-2.ensures ∙ ap₂ ◌+ℤ◌ less c.group_charges-groups.ensures.value)) (sizes (goal.at.returns-clause-range c).After-fixed).whole

use Rattle.std.proofs.Common.{◌^◌, ◌+ℤ◌, ap, ◌∙◌}
use Rattle.std.proofs.Math.Path.{ap₂}
use Rattle.d_num.specs.Amount.{IsWithin}
use Rattle.d_bill.specs.Flows.{permitted_arc}
use Rattle.d_bill.proofs.RuleFacts.{kept_sum, sum_within}
use Rattle.d_bill.proofs.problem.Problem.arc.Goals as goal
use Rattle.d_bill.proofs.problem.Problem.arc.Goals.{After-value-2}

net_within : (c : After-value-2) → IsWithin (10 ^ 9) c.value.result
net_within c = rw c.value.ensures.value c.interval.ensures.small

grid_within : (c : After-value-2) → IsWithin (10 ^ 9) c.value-2.result
grid_within c = rw c.value-2.ensures.value c.mode.ensures.range.grid

pub permitted-requires : goal.permitted-requires
permitted-requires c = sum_within c.value.result c.value-2.result (net_within (goal.at.permitted-requires c).After-value-2) (grid_within (goal.at.permitted-requires c).After-value-2)

pub returns : goal.returns
returns c =
    let s = (goal.at.returns c).After-value-2 in
    let flow = kept_sum c.value.result c.value-2.result (net_within s) (grid_within s) ∙ ap₂ ◌+ℤ◌ (c.value.ensures.value ∙ c.interval.ensures.net) c.value-2.ensures.value in
    rw c.mode.ensures.there (c.permitted.ensures ∙ ap (permitted_arc c.args.self.now) flow)

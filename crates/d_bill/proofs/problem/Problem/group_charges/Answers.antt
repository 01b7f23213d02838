use Rattle.std.proofs.Common.{rules, ◌≡◌, ◌<◌, ◌≤◌, ℕ, ℤ, List, pos, sym, subst, ap, ◌∙◌, length, arith}
use Rattle.d_num.specs.Sums.{sum_of_first}
use Rattle.d_tier.specs.declared.peak.Peak.{Peak}
use Rattle.d_bill.specs.Bills.{group_charge}
use Rattle.d_bill.specs.Counting.{group_limit}
use Rattle.d_bill.proofs.ChargeFacts.{IsChargedTo, charged_none, charged_more, charged_fits, group_limit_small, few_groups}
use Rattle.d_bill.proofs.problem.Problem.group_charges.Goals as goal
use Rattle.d_bill.proofs.problem.Problem.group_charges.Goals.{After-loop-group}

pub loop-group-init : goal.loop-group-init
loop-group-init c =
    let zero : c.unwrap-sum.result ≡ pos 0 = search rules in
    subst (λ (z : ℤ). IsChargedTo 0 (group_charge c.args.self.now c.args.tally.now) (group_limit c.args.self.now) z) (sym zero) (charged_none (group_charge c.args.self.now c.args.tally.now) (group_limit c.args.self.now))

pub plus-sum-requires : goal.plus-sum-requires
plus-sum-requires c =
    let i = c.args.self.now in
    let long : length c.groups-group-end.result.now ≡ length i.peaks = ap (λ (l : List Peak). length l) c.groups-group-end.ensures.value in
    let there : c.loop-group.group < length i.peaks = omega (arith, long, c.loop-group-test.true) in
    let few : c.loop-group.group ≤ 37 = let below = few_groups i c.loop-group.group c.groups-group-end.ensures.range there in omega arith in
    charged_fits c.loop-group.group (group_charge i c.args.tally.now) (group_limit i) c.loop-group.sum c.group_charge.result few c.loop-group.invariant c.group_charge.ensures.small (λ k _. group_limit_small i k)

pub loop-group-preserved : goal.loop-group-preserved
loop-group-preserved c =
    charged_more c.loop-group.group (group_charge c.args.self.now c.args.tally.now) (group_limit c.args.self.now) c.loop-group.sum c.group_charge.result c.plus-sum.result
    c.loop-group.invariant c.group_charge.ensures.value c.group_charge.ensures.small c.plus-sum.ensures

-- all groups are charged
whole : (c : After-loop-group) → c.loop-group.group ≡ length c.args.self.now.peaks
whole c =
    let long : length c.groups-group-end.result.now ≡ length c.args.self.now.peaks = ap (λ (l : List Peak). length l) c.groups-group-end.ensures.value in
    omega (arith, long, c.loop-group.auto.group-end, c.loop-group-test.false)

pub returns-clause-value : goal.returns-clause-value
returns-clause-value c = c.loop-group.invariant.is ∙ ap (λ (n : ℕ). sum_of_first n (group_charge c.args.self.now c.args.tally.now)) (whole c)

pub returns-clause-small : goal.returns-clause-small
returns-clause-small c group there = c.loop-group.invariant.small group (omega (arith, whole c))

use Rattle.std.proofs.Common.{◌≡◌, ◌∙◌, ap, length, arith, rules, ℕ}
use Rattle.d_bound.specs.Nodes.{low_charge}
use Rattle.d_num.specs.Sums.{sum_of_first}
use Rattle.d_bound.proofs.LowFacts.{low_none, low_more, low_small, low_fits, groups_few}
use Rattle.d_bound.proofs.bound.low_charges.Goals as goal

pub loop-group-init : goal.loop-group-init
loop-group-init c = low_none c.args.problem.now c.args.space.now c.unwrap-sum.result (search rules)

pub plus-sum-requires : goal.plus-sum-requires
plus-sum-requires c =
    let few = groups_few c.args.problem.now c.groups-group-end.ensures.range in
    let all = ap length c.groups-group-end.ensures.value in
    let inside = c.loop-group-test.true in
    low_fits c.args.problem.now c.args.space.now c.loop-group.group c.loop-group.sum c.low_charge.result c.loop-group.invariant (omega arith) c.low_charge.ensures.range

pub loop-group-preserved : goal.loop-group-preserved
loop-group-preserved c = low_more c.args.problem.now c.args.space.now c.loop-group.group c.loop-group.sum c.low_charge.result c.plus-sum.result c.loop-group.invariant c.low_charge.ensures.value c.low_charge.ensures.range c.plus-sum.ensures

pub returns-clause-value : goal.returns-clause-value
returns-clause-value c =
    let all = ap length c.groups-group-end.ensures.value in
    let past = c.loop-group-test.false in
    let inside = c.loop-group.auto.group-end in
    let whole : c.loop-group.group ≡ length c.args.problem.now.peaks = omega arith in
    c.loop-group.invariant.value ∙ ap (λ (n : ℕ). sum_of_first n (low_charge c.args.problem.now c.args.space.now)) whole

pub returns-clause-range : goal.returns-clause-range
returns-clause-range c =
    let few = groups_few c.args.problem.now c.groups-group-end.ensures.range in
    let all = ap length c.groups-group-end.ensures.value in
    let inside = c.loop-group.auto.group-end in
    low_small c.args.problem.now c.args.space.now c.loop-group.group c.loop-group.sum c.loop-group.invariant (omega arith)

use Rattle.std.proofs.Common.{arith, refl}
use Rattle.d_tariff.specs.Shown.{terms_of}
use Rattle.d_bill.proofs.JoinFacts.{group_added, group_missing, groups_all}
use Rattle.d_bill.proofs.join.demand_groups.Goals as goal
use Rattle.d_bill.proofs.join.demand_groups.Goals.{in-Some+in_ok-add, in_default}

pub loop-number-preserved : goal.loop-number-preserved
loop-number-preserved c =
    let terms = terms_of c.args.tariff.now in
    let demands = c.args.demands.now in
    let n = c.loop-number.number in
    let groups = c.loop-number.groups in
    elim c.match-group_peak.branch [
      | in-Some+in_ok-add w ↦
          rw w.groups-is (group_added terms demands n groups.numbers _ groups.peaks _ w.in-Some.peak c.loop-number.invariant w.in-Some.ensures.value (w.in-Some.ensures.prices _ refl) w.in_ok-add.ensures.numbers w.in_ok-add.ensures.peaks)
      | in_default w ↦ rw w.groups-is (group_missing terms demands n groups.numbers groups.peaks c.loop-number.invariant w.in_default.ensures.value)
    ]

pub returns-clause-numbers : goal.returns-clause-numbers
returns-clause-numbers c =
    groups_all (terms_of c.args.tariff.now) c.args.demands.now c.loop-number.number c.loop-number.groups.numbers (omega arith) c.loop-number.invariant.which

use Rattle.std.proofs.Common.{◌≡◌, length, to_z, of_z, w64, ap, ◌∙◌, arith}
use Rattle.std.proofs.lemmas.Int.{ints}
use Rattle.d_bill.specs.Flows.{net_at, arc_of_flow}
use Rattle.d_bill.specs.Totals.{tally_to}
use Rattle.d_bill.proofs.CountFacts.{tally_none}
use Rattle.d_bill.proofs.WalkFacts.{metered_tallied}
use Rattle.d_bill.proofs.problem.Problem.metered.Goals as goal
use Rattle.d_bill.proofs.problem.Problem.metered.Goals.{After-loop-t}

pub loop-t-init : goal.loop-t-init
loop-t-init c = c.new.ensures ∙ tally_none c.args.self.now (net_at c.args.self.now)

pub count-requires-clause-before : goal.count-requires-clause-before
count-requires-clause-before c = metered_tallied c.args.self.now c.loop-t.t c.loop-t.tally c.intervals-t-end.ensures.range (omega (arith, c.intervals-t-end.ensures.value, c.loop-t-test.true)) c.loop-t.invariant

pub loop-t-preserved : goal.loop-t-preserved
loop-t-preserved c =
    let i = c.args.self.now in
    let small = c.interval.ensures.small in
    let reading : c.value.result ≡ net_at i c.loop-t.t = c.value.ensures.value ∙ c.interval.ensures.net in
    let whole : to_z w64 (of_z w64 c.value.result) ≡ net_at i c.loop-t.t = omega (arith, ints, reading, c.value.ensures.value, small.0, small.1) in
    c.count.ensures (net_at i) (c.arc_of_flow-arc.ensures.value ∙ ap (arc_of_flow i.minutes) whole) c.loop-t.invariant

-- the last interval is counted
whole : (c : After-loop-t) → c.loop-t.t ≡ length c.args.self.now.net
whole c = omega (arith, c.intervals-t-end.ensures.value, c.loop-t.auto.t-end, c.loop-t-test.false)

pub returns-clause-value : goal.returns-clause-value
returns-clause-value c = c.loop-t.invariant ∙ ap (tally_to c.args.self.now (net_at c.args.self.now)) (whole c)

pub returns-clause-tallied : goal.returns-clause-tallied
returns-clause-tallied c =
    metered_tallied c.args.self.now (length c.args.self.now.net) c.loop-t.tally c.intervals-t-end.ensures.range (omega arith)
    (c.loop-t.invariant ∙ ap (tally_to c.args.self.now (net_at c.args.self.now)) (whole c))

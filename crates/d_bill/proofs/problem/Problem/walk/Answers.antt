use Rattle.std.proofs.Common.{◌≡◌, ◌*◌, ◌^◌, ◌≤◌, ◌<◌, ℕ, length, subst, sym, ap, ◌∙◌, arith}
use Rattle.d_num.specs.Amount.{IsUpTo}
use Rattle.d_bill.specs.declared.arc.Arc.{Arc}
use Rattle.d_bill.specs.Inputs.{Inputs}
use Rattle.d_bill.specs.Flows.{flow_at}
use Rattle.d_bill.specs.Schedules.{IsFirstBreak}
use Rattle.d_bill.specs.Totals.{tally_to}
use Rattle.d_bill.proofs.CountFacts.{tally_none}
use Rattle.d_bill.proofs.SizeFacts.{import_small, export_small}
use Rattle.d_bill.proofs.WalkFacts.{IsWalkedTo, flow_small, walked_none, walked_more, walked_break, walked_short, walked_whole, walked_tallied}
use Rattle.d_bill.proofs.Laws.{break_excludes, first_break_same}
use Rattle.d_bill.proofs.problem.Problem.walk.Goals as goal
use Rattle.d_bill.proofs.problem.Problem.walk.Goals.{In_default, In-Some, Then-level-self, Else-level-self}

pub loop-t-init : goal.loop-t-init
loop-t-init c =
    subst (λ (level : ℕ). IsWalkedTo c.args.self.now c.args.schedule.now 0 level c.new-counted.result) (sym (ap (λ (i : Inputs). i.storage.start) c.self.view_is))
    (walked_none c.args.self.now c.args.schedule.now c.new-counted.result (c.new-counted.ensures ∙ tally_none c.args.self.now (flow_at c.args.self.now c.args.schedule.now)))

-- the interval is there
there : (c : In-Some) → c.loop-t.t < length c.args.self.now.net
there c = omega (arith, c.intervals-count.ensures.value, c.loop-t-test.true)

-- a broken rule
broken : (c : In_default) → IsFirstBreak c.args.self.now c.args.schedule.now c.loop-t.t
broken c =
    walked_break c.args.self.now c.args.schedule.now c.loop-t.t c.loop-t.level c.loop-t.counted c.loop-t.invariant (omega (arith, c.intervals-count.ensures.value, c.loop-t-test.true))
    c.in_default.ensures.refused

pub returns-in_default-clause-refused : goal.returns-in_default-clause-refused
returns-in_default-clause-refused c = broken c

pub returns-in_default-clause-infeasible : goal.returns-in_default-clause-infeasible
returns-in_default-clause-infeasible c = break_excludes c.args.self.now c.args.schedule.now c.loop-t.t (broken c)

pub returns-in_default-clause-only : goal.returns-in_default-clause-only
returns-in_default-clause-only c t first = first_break_same c.args.self.now c.args.schedule.now t c.loop-t.t first (broken c)

pub count-requires-clause-import : goal.count-requires-clause-import
count-requires-clause-import c =
    let s = (goal.at.count-requires-clause-import c).In-Some in
    subst (IsUpTo (2 * 10 ^ 9)) (sym (ap (λ (a : Arc). a.import) c.in-Some.ensures.arc)) (import_small _ (flow_small c.args.self.now c.args.schedule.now c.loop-t.t c.intervals-count.ensures.range (there s)))

pub count-requires-clause-export : goal.count-requires-clause-export
count-requires-clause-export c =
    let s = (goal.at.count-requires-clause-export c).In-Some in
    subst (IsUpTo (2 * 10 ^ 9)) (sym (ap (λ (a : Arc). a.export) c.in-Some.ensures.arc)) (export_small _ (flow_small c.args.self.now c.args.schedule.now c.loop-t.t c.intervals-count.ensures.range (there s)))

pub count-requires-clause-before : goal.count-requires-clause-before
count-requires-clause-before c =
    let within : c.loop-t.t ≤ length c.args.self.now.net = omega (arith, c.intervals-count.ensures.value, c.loop-t-test.true) in
    walked_tallied c.args.self.now c.args.schedule.now c.loop-t.t c.loop-t.level c.loop-t.counted c.intervals-count.ensures.range within c.loop-t.invariant

pub loop-t-preserved : goal.loop-t-preserved
loop-t-preserved c =
    let i = c.args.self.now in
    let s = c.args.schedule.now in
    walked_more i s c.loop-t.t c.loop-t.level c.in-Some.step.level c.loop-t.counted c.count.new.tally c.loop-t.invariant c.in-Some.ensures.kept c.in-Some.ensures.level
    (c.count.ensures (flow_at i s) c.in-Some.ensures.arc c.loop-t.invariant.counted)

-- the level at the end is too low
short : (c : Then-level-self) → IsFirstBreak c.args.self.now c.args.schedule.now c.intervals-count.result
short c =
    let last : c.loop-t.t ≡ length c.args.self.now.net = omega (arith, c.intervals-count.ensures.value, c.loop-t.auto.t-end, c.loop-t-test.false) in
    let at : c.loop-t.t ≡ c.intervals-count.result = omega (arith, c.loop-t.auto.t-end, c.loop-t-test.false) in
    let end : c.self.inside.battery.end ≡ c.args.self.now.storage.end = ap (λ (i : Inputs). i.storage.end) c.self.view_is in
    subst (IsFirstBreak c.args.self.now c.args.schedule.now) at
    (walked_short c.args.self.now c.args.schedule.now c.loop-t.t c.loop-t.level c.loop-t.counted c.loop-t.invariant last (omega (arith, end, c.if-level-self.true)))

pub returns-then-level-self-clause-refused : goal.returns-then-level-self-clause-refused
returns-then-level-self-clause-refused c = short c

pub returns-then-level-self-clause-infeasible : goal.returns-then-level-self-clause-infeasible
returns-then-level-self-clause-infeasible c = break_excludes c.args.self.now c.args.schedule.now c.intervals-count.result (short c)

pub returns-then-level-self-clause-only : goal.returns-then-level-self-clause-only
returns-then-level-self-clause-only c t first = first_break_same c.args.self.now c.args.schedule.now t c.intervals-count.result first (short c)

-- the walk has come to the end
last : (c : Else-level-self) → c.loop-t.t ≡ length c.args.self.now.net
last c = omega (arith, c.intervals-count.ensures.value, c.loop-t.auto.t-end, c.loop-t-test.false)

pub returns-clause-feasible : goal.returns-clause-feasible
returns-clause-feasible c =
    let end : c.self.inside.battery.end ≡ c.args.self.now.storage.end = ap (λ (i : Inputs). i.storage.end) c.self.view_is in
    walked_whole c.args.self.now c.args.schedule.now c.loop-t.t c.loop-t.level c.loop-t.counted c.loop-t.invariant (last c) c.requires (omega (arith, end, c.if-level-self.false))

pub returns-clause-tally : goal.returns-clause-tally
returns-clause-tally c = c.loop-t.invariant.counted ∙ ap (tally_to c.args.self.now (flow_at c.args.self.now c.args.schedule.now)) (last c)

pub returns-clause-tallied : goal.returns-clause-tallied
returns-clause-tallied c =
    let i = c.args.self.now in
    let s = c.args.schedule.now in
    record {
      flow = flow_at i s;
      small = λ t inside. flow_small i s t c.intervals-count.ensures.range inside;
      is = c.loop-t.invariant.counted ∙ ap (tally_to i (flow_at i s)) (last c);
    }

use Rattle.std.proofs.Common.{◌≡◌, pos, ◌≤ℤ◌, ◌+ℤ◌, Some, sym, ◌∙◌, arith}
use Rattle.std.proofs.lemmas.Int.{ints}
use Rattle.d_bill.specs.Flows.{arc_of}
use Rattle.d_bill.proofs.RuleFacts.{keeps_rules, arc_permitted}
use Rattle.d_bill.proofs.problem.Problem.step.Goals as goal

pub returns-clause-kept : goal.returns-clause-kept
returns-clause-kept c =
    let i = c.args.self.now in
    let mode = c.mode-mode.result.now in
    let found : arc_of i c.args.t c.args.number ≡ Some c.in_ok-arc.arc = sym c.arc.ensures ∙ c.in_ok-arc.was in
    let permitted = (arc_permitted i c.args.t c.args.number mode c.in_ok-arc.arc c.mode-mode.ensures.there found).0 in
    let low : pos mode.low ≤ℤ pos c.args.level = omega (arith, ints) in
    let high : pos c.args.level ≤ℤ pos mode.high = omega (arith, ints) in
    let moved = c.in_ok-after.ensures.value in
    let change = c.mode-mode.ensures.range.change in
    let kept = c.in_ok-after.ensures.kept in
    let floor : pos i.storage.floor ≤ℤ (pos c.args.level +ℤ mode.change) = omega (arith, ints, moved, change.0, change.1, kept.0) in
    let capacity : (pos c.args.level +ℤ mode.change) ≤ℤ pos i.storage.capacity = omega (arith, ints, moved, change.0, change.1, kept.1) in
    keeps_rules i c.args.t c.args.number (pos c.args.level) mode c.mode-mode.ensures.there (record { permitted = permitted; low = low; high = high; floor = floor; capacity = capacity })

pub returns-clause-arc : goal.returns-clause-arc
returns-clause-arc c =
    let i = c.args.self.now in
    let found : arc_of i c.args.t c.args.number ≡ Some c.in_ok-arc.arc = sym c.arc.ensures ∙ c.in_ok-arc.was in
    (arc_permitted i c.args.t c.args.number c.mode-mode.result.now c.in_ok-arc.arc c.mode-mode.ensures.there found).1

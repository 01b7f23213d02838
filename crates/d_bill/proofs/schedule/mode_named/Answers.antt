use Rattle.std.proofs.Common.{◌≡◌, ◌∙◌, ap, sym, arith, below_more, true≢false}
use Rattle.std.proofs.lemmas.Slice.Eq.{bytes_eq-Decides}
use Rattle.d_batt.specs.declared.mode.Mode.{Mode}
use Rattle.d_batt.specs.Storage.{Storage}
use Rattle.d_bill.proofs.ModeNames.{named_here, not_here, nowhere}
use Rattle.d_bill.proofs.schedule.mode_named.Goals as goal
use Rattle.d_bill.proofs.schedule.mode_named.Goals.{After-as_slice-modes}

modes_are : (c : After-as_slice-modes) → c.as_slice-modes.result.now ≡ c.args.problem.now.storage.modes
modes_are c = c.as_slice-modes.ensures ∙ ap (λ (s : Storage). s.modes) c.battery.ensures

pub returns-then-eq-clause-some : goal.returns-then-eq-clause-some
returns-then-eq-clause-some c =
    let modes = modes_are (goal.at.returns-then-eq-clause-some c).After-as_slice-modes in
    let number = c.loop-number.number in
    let mode = c.index-modes-number.result in
    let same = (bytes_eq-Decides c.bytes.result.now c.args.name.now).0 (sym c.eq.ensures ∙ c.if-eq.true) in
    let named = ap (λ (m : Mode). m.name) c.index-modes-number.is ∙ sym c.bytes.ensures.value ∙ same in
    rw (sym modes) (named_here c.as_slice-modes.result.now c.args.name.now number mode (omega arith) c.index-modes-number.is named)

pub loop-number-preserved : goal.loop-number-preserved
loop-number-preserved c =
    let modes = c.as_slice-modes.result.now in
    let mode = c.index-modes-number.result in
    let other : mode.name ≡ c.args.name.now → ⊥ = λ named.
    let same = c.bytes.ensures.value ∙ ap (λ (m : Mode). m.name) (sym c.index-modes-number.is) ∙ named in
    let hit = c.eq.ensures ∙ (bytes_eq-Decides c.bytes.result.now c.args.name.now).1 same in
    true≢false (sym hit ∙ c.if-eq.false) in
    below_more _ _ c.loop-number.invariant (not_here modes c.args.name.now c.loop-number.number mode (omega arith) c.index-modes-number.is other)

pub returns-clause-none : goal.returns-clause-none
returns-clause-none c =
    let modes = modes_are (goal.at.returns-clause-none c).After-as_slice-modes in
    rw (sym modes) (nowhere c.as_slice-modes.result.now c.args.name.now c.loop-number.number (omega arith) c.loop-number.invariant)

use Rattle.std.proofs.Common.{rules, w64, ◌≡◌, ℤ, [], ◌∷◌, ◌++◌, Vec, Global, length, ◌*◌, arith, ap, ◌∙◌}
use Rattle.std.proofs.Math.Path.{ap₂}
use Rattle.std.proofs.lemmas.Int.{to_z-of_z}
use Rattle.d_batt.specs.Storage.{Storage}
use Rattle.d_bound.proofs.DrawnFacts.{drawn_same, drawn_more, drawn_all}
use Rattle.d_bound.proofs.roots.drawn_powers.Goals as goal
use Rattle.d_bound.proofs.roots.drawn_powers.Goals.{in-Some+in_ok-push, in_default}

pub loop-place-preserved : goal.loop-place-preserved
loop-place-preserved c =
    let i = c.args.problem.now in
    let count = c.len-modes.ensures ∙ ap (λ (s : Storage). length s.modes) c.battery.ensures in
    elim c.match-drawn_at.branch [
      | in-Some+in_ok-push w ↦
          let number = to_z-of_z w64 w.in-Some.power (search rules) in
          let items = ap (λ (v : Vec ℤ Global). v.items) w.list-is ∙ w.in_ok-push.ensures.items in
          let pushed : c.match-drawn_at.list.items ≡ c.loop-place.list.items ++ w.in-Some.power ∷ [] = items ∙ ap (λ (x : ℤ). c.loop-place.list.items ++ x ∷ []) number in
          drawn_more i c.args.group c.intervals.result c.len-modes.result c.loop-place.place c.loop-place.list.items c.match-drawn_at.list.items w.in-Some.power
          c.intervals.ensures.value count c.loop-place-test.true c.loop-place.invariant w.in-Some.ensures pushed
      | in_default w ↦
          rw w.list-is (drawn_same i c.args.group c.len-modes.result c.loop-place.place c.loop-place.list.items count c.loop-place.invariant w.in_default.ensures)
    ]

pub returns : goal.returns
returns c =
    let i = c.args.problem.now in
    let count = c.len-modes.ensures ∙ ap (λ (s : Storage). length s.modes) c.battery.ensures in
    let whole : c.intervals.result * c.len-modes.result ≡ length i.net * length i.storage.modes = ap₂ ◌*◌ c.intervals.ensures.value count in
    drawn_all i c.args.group c.loop-place.place c.loop-place.list.items (omega (arith, c.loop-place.auto.place-end)) c.loop-place.invariant

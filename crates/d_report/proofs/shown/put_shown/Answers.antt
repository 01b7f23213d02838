use Rattle.std.proofs.Common.{◌≡◌, ◌++◌, ◌∙◌, ℕ, List, map, arith, ap}
use Rattle.d_report.specs.Shown.{shown_byte}
use Rattle.d_report.proofs.ShownCells.{front_shown}
use Rattle.d_report.proofs.shown.put_shown.Goals as goal

pub returns : goal.returns
returns c =
    let end : c.loop-place.place ≡ c.min-place-end.result = omega arith in
    c.loop-place.invariant ∙ ap (λ (front : List ℕ). c.args.text.now.items ++ map shown_byte front) (front_shown c.args.cell.now c.loop-place.place (rw end c.min-place-end.ensures))

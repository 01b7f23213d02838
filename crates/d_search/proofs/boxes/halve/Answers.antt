use Rattle.std.proofs.Common.{◌≡◌, ap, sym, w64, rules, ◌∙◌}
use Rattle.std.proofs.lemmas.Int.{to_z-of_z}
use Rattle.d_box.specs.Boxes.{left_half, right_half}
use Rattle.d_box.specs.Halves.{left_of, right_of}
use Rattle.d_search.proofs.RuleFacts.{cut_group, cut_there, halves_made, half_boxes}
use Rattle.d_search.proofs.boxes.halve.Goals as goal
use Rattle.d_search.proofs.boxes.halve.Goals.{After-halves}

left_at : (c : After-halves) → c.halves.new.left ≡ left_of c.args.space.now c.in_ok-split.split
left_at c =
    c.halves.ensures.left ∙ ap (left_half c.args.space.now c.in_ok-split.split) (to_z-of_z w64 c.end_of-below.result (search rules) ∙ c.end_of-below.ensures)

right_at : (c : After-halves) → c.halves.new.right ≡ right_of c.args.candidates.now c.args.space.now c.in_ok-split.split
right_at c =
    c.halves.ensures.right ∙ ap (right_half c.args.space.now c.in_ok-split.split) (to_z-of_z w64 c.begin_of-above.result (search rules) ∙ c.begin_of-above.ensures)

pub begin_of-above-requires : goal.begin_of-above-requires
begin_of-above-requires c = cut_group c.args.candidates.now c.args.space.now c.in_ok-split.split c.in_ok-split.ensures.cut

pub halves-requires : goal.halves-requires
halves-requires c = cut_there c.args.candidates.now c.args.space.now c.in_ok-split.split c.requires.boxed.box c.in_ok-split.ensures.cut

pub returns-clause-split : goal.returns-clause-split
returns-clause-split c =
    let d = (goal.at.returns-clause-split c).After-halves in
    halves_made c.args.problem.now c.args.candidates.now c.args.space.now c.in_ok-split.split c.halves.new.left c.halves.new.right
    (sym c.in_ok-split.ensures.place) (left_at d) (right_at d)

pub returns-clause-left : goal.returns-clause-left
returns-clause-left c =
    let d = (goal.at.returns-clause-left c).After-halves in
    (half_boxes c.args.candidates.now c.args.space.now c.in_ok-split.split c.halves.new.left c.halves.new.right c.halves_are_boxes.ensures
    c.in_ok-split.ensures.cut c.requires.boxed (left_at d) (right_at d)).0

pub returns-clause-right : goal.returns-clause-right
returns-clause-right c =
    let d = (goal.at.returns-clause-right c).After-halves in
    (half_boxes c.args.candidates.now c.args.space.now c.in_ok-split.split c.halves.new.left c.halves.new.right c.halves_are_boxes.ensures
    c.in_ok-split.ensures.cut c.requires.boxed (left_at d) (right_at d)).1

use Rattle.std.proofs.Common.{rules, w64, slice_index_or, length, subst, sym, ◌≡◌, ◌≤◌, ◌≤ℤ◌, ◌<ℤ◌, ◌∙◌}
use Rattle.std.proofs.lemmas.Int.{to_z-of_z}
use Rattle.std.proofs.lemmas.List.{get_or_past}
use Rattle.std.specs.List.Sorted.{IsPartitionPoint}
use Rattle.d_box.specs.Candidates.{next_above}
use Rattle.d_box.proofs.PlaceFacts.{next_at}
use Rattle.d_box.proofs.places.first_above.Goals as goal
use Rattle.d_box.proofs.places.first_above.Goals.{After-count_up_to}

-- the candidate at the place, or the power
next : (c : After-count_up_to) → next_above c.args.list.now c.args.power ≡ slice_index_or c.args.list.now c.count_up_to.result c.args.power
next c =
    next_at c.args.list.now c.args.power c.count_up_to.result
    (subst (λ z. IsPartitionPoint (λ y. y ≤ℤ z) (λ y. z <ℤ y) c.args.list.now c.count_up_to.result) (to_z-of_z w64 c.args.power c.ranges.power)
    c.count_up_to.ensures.place)

pub returns-in-Some : goal.returns-in-Some
returns-in-Some c =
    let found : slice_index_or c.args.list.now c.count_up_to.result c.args.power ≡ c.in-Some.candidate.now = search rules in
    to_z-of_z w64 c.in-Some.candidate.now (search rules) ∙ sym (next (goal.at.returns-in-Some c).After-count_up_to ∙ found)

pub returns-in-None : goal.returns-in-None
returns-in-None c =
    let over : length c.args.list.now ≤ c.count_up_to.result = search rules in
    to_z-of_z w64 c.args.power c.ranges.power
    ∙ sym (next (goal.at.returns-in-None c).After-count_up_to ∙ get_or_past c.args.list.now c.count_up_to.result c.args.power over)

use Rattle.std.proofs.Common.{rules, w64, subst, arith, ◌≤ℤ◌, ◌<ℤ◌, ◌∙◌}
use Rattle.std.proofs.lemmas.Int.{to_z-of_z}
use Rattle.std.specs.List.Sorted.{IsPartitionPoint}
use Rattle.d_box.proofs.PlaceFacts.{IsMiddleAt, middle_at}
use Rattle.d_box.proofs.places.middle_in.Goals as goal
use Rattle.d_box.proofs.places.middle_in.Goals.{After-count_up_to}

-- where the middle is
places : (c : After-count_up_to) → IsMiddleAt c.args.range.now c.args.list.now c.count_below-first.result c.count_up_to.result
places c =
    let low = to_z-of_z w64 c.args.range.now.low (search rules) in
    let high = to_z-of_z w64 c.args.range.now.high (search rules) in
    middle_at c.args.range.now c.args.list.now _ _ c.requires.some c.count_below-first.ensures.few c.count_up_to.ensures.few
    (subst (λ z. IsPartitionPoint (λ y. y <ℤ z) (λ y. z ≤ℤ y) c.args.list.now c.count_below-first.result) low c.count_below-first.ensures.place)
    (subst (λ z. IsPartitionPoint (λ y. y ≤ℤ z) (λ y. z <ℤ y) c.args.list.now c.count_up_to.result) high c.count_up_to.ensures.place)

pub overflow_sub-count : goal.overflow_sub-count
overflow_sub-count c = let some = (places (goal.at.overflow_sub-count c).After-count_up_to).some in omega arith

pub overflow_sub-place : goal.overflow_sub-place
overflow_sub-place c = let some = (places (goal.at.overflow_sub-place c).After-count_up_to).some in omega arith

pub bounds-list-first : goal.bounds-list-first
bounds-list-first c =
    let place = places (goal.at.bounds-list-first c).After-count_up_to in
    let some = place.some in
    let few = place.few in
    omega arith

pub returns : goal.returns
returns c = to_z-of_z w64 _ (search rules) ∙ (places (goal.at.returns c).After-count_up_to).is

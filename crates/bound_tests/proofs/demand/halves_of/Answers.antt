use Rattle.std.proofs.Common.{rules, w64, ◌≡◌, ◌∙◌, ℤ, [], Some, ap, subst, sym}
use Rattle.std.proofs.lemmas.Int.{to_z-of_z}
use Rattle.d_box.specs.declared.space.Split.{Split}
use Rattle.d_box.specs.declared.space.Split.TheVariants.{Peak}
use Rattle.d_box.specs.Boxes.{left_half, right_half}
use Rattle.d_box.specs.Candidates.{list_at, next_above}
use Rattle.d_box.specs.Splits.{IsSplitOf}
use Rattle.d_bound.specs.Roots.{IsProblemBox}
use Rattle.bound_tests.proofs.SplitFacts.{halves_boxed}
use Rattle.bound_tests.proofs.demand.halves_of.Goals as goal
use Rattle.bound_tests.proofs.demand.halves_of.Goals.{After-halves}

-- both halves are boxes of the problem
both : (c : After-halves) → IsProblemBox c.args.bounder.now.candidates c.halves.new.left × IsProblemBox c.args.bounder.now.candidates c.halves.new.right
both c =
    let at = to_z-of_z w64 c.in-Some-Peak.at (search rules) in
    let above = to_z-of_z w64 c.next_above-above.result (search rules) in
    let split = subst (λ (s : Split). IsSplitOf c.args.space.now [] c.groups.result.now c.candidates-candidates.result.now (Some s)) c.in-Some-Peak.field-0-is c.in-Some-Peak.ensures in
    halves_boxed c.splits_are_cuts.ensures c.halves_are_boxes.ensures c.args.problem.now c.args.bounder.now.candidates c.candidates-candidates.result.now c.groups.result.now c.args.space.now
    c.halves.new.left c.halves.new.right c.in-Some-Peak.group c.in-Some-Peak.at c.next_above-above.result c.requires.bounder.range c.requires.bounder.candidates c.requires.boxed
    c.candidates-candidates.ensures c.groups.ensures.value split
    (c.next_above-above.ensures ∙ ap (λ (x : ℤ). next_above (list_at c.candidates-candidates.result.now c.in-Some-Peak.group) x) at)
    (c.halves.ensures.left ∙ ap (λ (x : ℤ). left_half c.args.space.now (Peak c.in-Some-Peak.group c.in-Some-Peak.at) x) at)
    (c.halves.ensures.right ∙ ap (λ (x : ℤ). right_half c.args.space.now (Peak c.in-Some-Peak.group c.in-Some-Peak.at) x) above)

pub returns-clause-left : goal.returns-clause-left
returns-clause-left c = (both c).0

pub returns-clause-right : goal.returns-clause-right
returns-clause-right c = (both c).1

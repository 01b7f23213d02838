use Rattle.std.proofs.Common.{rules, w64, ◌≤◌, ◌∙◌, sym, subst, arith, length}
use Rattle.std.proofs.lemmas.Int.{to_z-of_z}
use Rattle.d_box.specs.Boxes.{range_at}
use Rattle.d_box.specs.Candidates.{in_range}
use Rattle.d_box.specs.Splits.{HasNoTotal, IsWidestGroup}
use Rattle.d_box.specs.Steps.{IsFirstTotal}
use Rattle.d_box.proofs.SplitFacts.{widest_is, found_two, split_found}
use Rattle.d_box.proofs.splits.split_of.Goals as goal
use Rattle.d_box.proofs.splits.split_of.Goals.{After-list}

-- the group that was found
group : (c : After-list) → IsWidestGroup c.args.space.now c.args.groups.now (length c.args.groups.now) c.in_ok-group.group
group c = widest_is c.args.space.now c.args.groups.now _ c.in_ok-group.group c.widest.ensures c.in_ok-group.was

pub middle_in-requires-clause-some : goal.middle_in-requires-clause-some
middle_in-requires-clause-some c =
    let w = group (goal.at.middle_in-requires-clause-some c).After-list in
    let t = subst (λ q. 2 ≤ length (in_range (range_at c.args.space.now.peaks c.in_ok-group.group) q)) (sym c.list.ensures.list)
    (found_two c.args.space.now c.args.groups.now c.args.candidates.now c.in_ok-group.group w c.requires.lists c.requires.ends) in
    omega arith

pub returns : goal.returns
returns c =
    let w = group (goal.at.returns c).After-list in
    let none : HasNoTotal c.args.space.now c.args.energy.now (length c.args.energy.now) =
    subst (λ q. IsFirstTotal c.args.space.now c.args.energy.now (length c.args.energy.now) q) c.in_default.is c.first_total.ensures in
    split_found c.args.space.now c.args.energy.now c.args.groups.now c.args.candidates.now c.in_ok-group.group _ c.list.result.now none w
    c.requires.lists c.requires.ends c.list.ensures.rises c.list.ensures.list (to_z-of_z w64 c.middle_in.result (search rules) ∙ c.middle_in.ensures)

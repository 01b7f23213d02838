use Rattle.std.proofs.Common.{◌≡◌, ◌∙◌, sym, subst, option_map, List, ℕ, Option, Some, None, refl}
use Rattle.d_path.specs.Arcs.{arcs_of}
use Rattle.d_bound.specs.Bounders.{IsWritten}
use Rattle.d_bound.specs.Nodes.{box_schedule}
use Rattle.d_bound.proofs.BoxWays.{capped_arcs, ways_capped, capped_sound, capped_fit, fit_capped, capped_long, capped_feasible, capped_small, schedule_found, schedule_none, with_layers, node_some, node_none}
use Rattle.d_bound.proofs.bounder.Bounder.node.Goals as goal
use Rattle.d_bound.proofs.bounder.Bounder.node.Goals.{After-ways_over-ways}

-- the ways at hand are those within the caps of the box
ways_are : (c : After-ways_over-ways) → arcs_of c.ways_over-ways.result ≡ capped_arcs c.args.problem.now c.args.space.now
ways_are c =
    ways_capped c.args.problem.now c.args.space.now c.cap.new.self (arcs_of c.ways_over-ways.result) c.as_slice.result.now c.as_slice-2.result.now
    c.cap.ensures.bounder c.cap.ensures.capped c.as_slice.ensures.value c.as_slice-2.ensures.value c.ways_over-ways.ensures

pub find_first-requires-clause-sound : goal.find_first-requires-clause-sound
find_first-requires-clause-sound c =
    capped_sound c.args.problem.now c.args.space.now (arcs_of c.ways_over-ways.result) c.requires.bounder.range (ways_are (goal.at.find_first-requires-clause-sound c).After-ways_over-ways)

pub find_first-requires-clause-fits : goal.find_first-requires-clause-fits
find_first-requires-clause-fits c =
    capped_fit c.args.problem.now c.args.space.now (arcs_of c.ways_over-ways.result) c.requires.bounder.range (ways_are (goal.at.find_first-requires-clause-fits c).After-ways_over-ways)
    c.cap.new.self.layers c.cap.ensures.bounder.layers

pub find_first-requires-clause-room : goal.find_first-requires-clause-room
find_first-requires-clause-room c =
    c.requires.room ∙ sym (capped_long c.args.problem.now c.args.space.now (arcs_of c.ways_over-ways.result) c.requires.bounder.range (ways_are (goal.at.find_first-requires-clause-room c).After-ways_over-ways))

pub bound_of-requires-clause-cost : goal.bound_of-requires-clause-cost
bound_of-requires-clause-cost c =
    capped_small c.args.problem.now c.args.space.now (arcs_of c.ways_over-ways.result) c.requires.bounder.range (ways_are (goal.at.bound_of-requires-clause-cost c).After-ways_over-ways)
    c.in-Some.cost c.find_first.new.schedule c.in-Some.ensures.found

pub bill_of-requires : goal.bill_of-requires
bill_of-requires c =
    capped_feasible c.args.problem.now c.args.space.now (arcs_of c.ways_over-ways.result) c.requires.bounder.range (ways_are (goal.at.bill_of-requires c).After-ways_over-ways)
    c.in-Some.cost c.find_first.new.schedule c.in-Some.ensures.found

pub returns-in-Some-clause-bounder : goal.returns-in-Some-clause-bounder
returns-in-Some-clause-bounder c =
    with_layers c.args.problem.now c.cap.new.self c.find_first.new.layers c.cap.new.self.day c.cap.ensures.bounder
    (fit_capped c.args.problem.now c.args.space.now (arcs_of c.ways_over-ways.result) c.requires.bounder.range (ways_are (goal.at.returns-in-Some-clause-bounder c).After-ways_over-ways)
    c.find_first.new.layers c.find_first.ensures.fits)

pub returns-in-Some-clause-node : goal.returns-in-Some-clause-node
returns-in-Some-clause-node c =
    node_some c.args.problem.now c.args.space.now (option_map (λ s. s.now) c.args.parent) (arcs_of c.ways_over-ways.result) c.first_slopes-slopes.result c.in-Some.cost c.bound_of.result c.bill_of.result c.find_first.new.schedule
    (record { range = c.requires.bounder.range; none = c.requires.untiered }) (ways_are (goal.at.returns-in-Some-clause-node c).After-ways_over-ways)
    c.first_slopes-slopes.ensures c.in-Some.ensures.found c.bound_of.ensures c.bill_of.ensures

pub returns-in-Some-clause-schedule : goal.returns-in-Some-clause-schedule
returns-in-Some-clause-schedule c =
    written (box_schedule c.args.problem.now c.args.space.now c.first_slopes-slopes.result) c.args.schedule.now c.find_first.new.schedule (schedule_found c.args.problem.now c.args.space.now (arcs_of c.ways_over-ways.result) c.requires.bounder.range (ways_are (goal.at.returns-in-Some-clause-schedule c).After-ways_over-ways)
    c.first_slopes-slopes.result c.in-Some.cost c.find_first.new.schedule c.requires.untiered c.in-Some.ensures.found)
  where
    written : (found : Option (List ℕ)) (before after : List ℕ) → found ≡ Some after → IsWritten found before after
    written found before after is = subst (λ (o : Option (List ℕ)). IsWritten o before after) (sym is) refl

pub returns-in-None-clause-bounder : goal.returns-in-None-clause-bounder
returns-in-None-clause-bounder c =
    with_layers c.args.problem.now c.cap.new.self c.find_first.new.layers c.cap.new.self.day c.cap.ensures.bounder
    (fit_capped c.args.problem.now c.args.space.now (arcs_of c.ways_over-ways.result) c.requires.bounder.range (ways_are (goal.at.returns-in-None-clause-bounder c).After-ways_over-ways)
    c.find_first.new.layers c.find_first.ensures.fits)

pub returns-in-None-clause-node : goal.returns-in-None-clause-node
returns-in-None-clause-node c =
    node_none c.args.problem.now c.args.space.now (option_map (λ s. s.now) c.args.parent) (arcs_of c.ways_over-ways.result) c.first_slopes-slopes.result
    (record { range = c.requires.bounder.range; none = c.requires.untiered }) (ways_are (goal.at.returns-in-None-clause-node c).After-ways_over-ways)
    c.first_slopes-slopes.ensures c.in-None.ensures.found.0

pub returns-in-None-clause-schedule : goal.returns-in-None-clause-schedule
returns-in-None-clause-schedule c =
    written (box_schedule c.args.problem.now c.args.space.now c.first_slopes-slopes.result) c.args.schedule.now c.find_first.new.schedule (schedule_none c.args.problem.now c.args.space.now (arcs_of c.ways_over-ways.result) c.requires.bounder.range (ways_are (goal.at.returns-in-None-clause-schedule c).After-ways_over-ways)
    c.first_slopes-slopes.result c.requires.untiered c.in-None.ensures.found.0) c.in-None.ensures.found.1
  where
    written : (found : Option (List ℕ)) (before after : List ℕ) → found ≡ None → after ≡ before → IsWritten found before after
    written found before after is same = subst (λ (o : Option (List ℕ)). IsWritten o before after) (sym is) same

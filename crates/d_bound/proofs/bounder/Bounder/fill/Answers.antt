use Rattle.std.proofs.Common.{◌≡◌, ◌∙◌}
use Rattle.d_path.specs.Arcs.{arcs_of}
use Rattle.std.proofs.Math.Path.{ap₂}
use Rattle.d_bound.specs.Bounders.{arcs_over}
use Rattle.d_bound.proofs.BoxWays.{capped_arcs, ways_capped, capped_box, capped_sound, capped_fit, fit_capped, held_capped, with_layers, filled_by}
use Rattle.d_bound.proofs.bounder.Bounder.fill.Goals as goal
use Rattle.d_bound.proofs.bounder.Bounder.fill.Goals.{After-ways_over-ways}

-- the ways at hand are those within the caps of the box
ways_are : (c : After-ways_over-ways) → arcs_of c.ways_over-ways.result ≡ capped_arcs c.args.problem.now c.args.space.now
ways_are c =
    ways_capped c.args.problem.now c.args.space.now c.cap.new.self (arcs_of c.ways_over-ways.result) c.as_slice.result.now c.as_slice-2.result.now
    c.cap.ensures.bounder c.cap.ensures.capped c.as_slice.ensures.value c.as_slice-2.ensures.value c.ways_over-ways.ensures

pub backward_days-requires-clause-sound : goal.backward_days-requires-clause-sound
backward_days-requires-clause-sound c =
    capped_sound c.args.problem.now c.args.space.now (arcs_of c.ways_over-ways.result) c.requires.bounder.range (ways_are (goal.at.backward_days-requires-clause-sound c).After-ways_over-ways)

pub backward_days-requires-clause-fits : goal.backward_days-requires-clause-fits
backward_days-requires-clause-fits c =
    capped_fit c.args.problem.now c.args.space.now (arcs_of c.ways_over-ways.result) c.requires.bounder.range (ways_are (goal.at.backward_days-requires-clause-fits c).After-ways_over-ways)
    c.cap.new.self.layers c.cap.ensures.bounder.layers

pub fill_day-requires-clause-sound : goal.fill_day-requires-clause-sound
fill_day-requires-clause-sound c =
    capped_sound c.args.problem.now c.args.space.now (arcs_of c.ways_over-ways.result) c.requires.bounder.range (ways_are (goal.at.fill_day-requires-clause-sound c).After-ways_over-ways)

pub returns-clause-arcs : goal.returns-clause-arcs
returns-clause-arcs c =
    held_capped c.args.problem.now c.args.space.now c.cap.new.self c.fill_day.new.layers 0 c.cap.ensures.bounder c.cap.ensures.capped ∙ capped_box c.args.problem.now c.args.space.now c.args.slopes.now c.requires.untiered

pub returns-clause-filled : goal.returns-clause-filled
returns-clause-filled c =
    let ways = ways_are (goal.at.returns-clause-filled c).After-ways_over-ways in
    let held : arcs_of c.ways_over-ways.result ≡ arcs_over c.cap.new.self.levels c.cap.new.self.capped.items c.cap.new.self.moves.items =
    c.ways_over-ways.ensures ∙ ap₂ (arcs_over c.cap.new.self.levels) c.as_slice.ensures.value c.as_slice-2.ensures.value in
    filled_by c.cap.new.self (arcs_of c.ways_over-ways.result) c.backward_days.new.layers c.fill_day.new.layers held
    (capped_sound c.args.problem.now c.args.space.now (arcs_of c.ways_over-ways.result) c.requires.bounder.range ways)
    c.fill_day.ensures.fits c.backward_days.ensures.cheapest c.fill_day.ensures.kept c.fill_day.ensures.long c.fill_day.ensures.cheapest

pub returns-clause-bounder : goal.returns-clause-bounder
returns-clause-bounder c =
    let ways = ways_are (goal.at.returns-clause-bounder c).After-ways_over-ways in
    with_layers c.args.problem.now c.cap.new.self c.fill_day.new.layers 0 c.cap.ensures.bounder
    (fit_capped c.args.problem.now c.args.space.now (arcs_of c.ways_over-ways.result) c.requires.bounder.range ways c.fill_day.new.layers c.fill_day.ensures.fits)

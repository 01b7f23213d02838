use Rattle.std.proofs.Common.{◌≢◌, ◌+◌, ◌<◌, ◌∙◌, length, refl, sym, subst, arith, Option, ℕ}
use Rattle.std.specs.Option.{IsSome}
use Rattle.d_num.specs.declared.pot.Pot.TheVariants.{NoWay}
use Rattle.d_path.specs.Arcs.{arcs_of}
use Rattle.d_path.specs.Best.{IsFirstPlace, cost_by}
use Rattle.d_path.proofs.StepLemmas.{cheapest_step, best_is_least}
use Rattle.d_path.proofs.RowLemmas.{row_within}
use Rattle.d_path.proofs.FirstLemmas.{way_there, place_of, step_read, move_made, first_move_is}
use Rattle.d_path.proofs.first.first_move.Goals as goal
use Rattle.d_path.proofs.first.first_move.Goals.{After-best_move-number}

there : (c : After-best_move-number) → c.best_move-number.result.cost ≢ NoWay
there c =
    let a = arcs_of c.args.ways.now in
    way_there a c.args.t c.args.level c.best_move-number.result.cost c.requires.there
    (cheapest_step a c.args.t c.args.level c.costs_at-costs.result.now c.args.next.now c.costs_at-costs.ensures.costs c.requires.next_cheapest c.best_move-number.result.cost c.requires.inside
    (best_is_least (cost_by a c.costs_at-costs.result.now c.args.next.now c.args.level) (length c.args.ways.now.moves.now) c.best_move-number.result.cost c.best_move-number.result.number c.best_move-number.ensures))

place : (c : After-best_move-number) → IsFirstPlace (cost_by (arcs_of c.args.ways.now) c.costs_at-costs.result.now c.args.next.now c.args.level) (length c.args.ways.now.moves.now) c.best_move-number.result.cost c.best_move-number.result.number
place c = place_of (cost_by (arcs_of c.args.ways.now) c.costs_at-costs.result.now c.args.next.now c.args.level) (length c.args.ways.now.moves.now) c.best_move-number.result.cost c.best_move-number.result.number c.best_move-number.ensures (there c)

small : (c : After-best_move-number) → c.best_move-number.result.number < 64
small c = omega (arith, (place c).inside, c.requires.sound.few_moves)

pub best_move-number-requires-clause-within : goal.best_move-number-requires-clause-within
best_move-number-requires-clause-within c = row_within (arcs_of c.args.ways.now) (c.args.t + 1) c.args.next.now c.requires.sound c.requires.next_wide c.requires.next_cheapest

pub offset_bounds-ways-number : goal.offset_bounds-ways-number
offset_bounds-ways-number c = omega (arith, small c)

pub bounds-ways-number : goal.bounds-ways-number
bounds-ways-number c = (place c).inside

pub unwrap-after-requires : goal.unwrap-after-requires
unwrap-after-requires c =
    let b = (goal.at.unwrap-after-requires c).After-best_move-number in
    let a = arcs_of c.args.ways.now in
    let made = move_made a c.args.level c.costs_at-costs.result.now c.args.next.now c.best_move-number.result.cost c.best_move-number.result.number (place b) (there b) in
    subst (λ (o : Option ℕ). IsSome o) (sym (c.next_level.ensures ∙ sym (step_read a c.args.level c.best_move-number.result.number _ (place b).inside) ∙ made.1)) refl

pub overflow_cast-result : goal.overflow_cast-result
overflow_cast-result c =
    let b = (goal.at.overflow_cast-result c).After-best_move-number in
    omega (arith, small b)

pub returns : goal.returns
returns c =
    let b = (goal.at.returns c).After-best_move-number in
    let a = arcs_of c.args.ways.now in
    first_move_is a c.args.t c.args.level c.costs_at-costs.result.now c.args.next.now c.best_move-number.result.cost c.best_move-number.result.number c.unwrap-after.result c.costs_at-costs.ensures.costs c.requires.next_cheapest c.requires.inside c.best_move-number.ensures (there b)
    (step_read a c.args.level c.best_move-number.result.number _ (place b).inside ∙ sym c.next_level.ensures ∙ c.unwrap-after.ensures)

use Rattle.std.proofs.Common.{◌≡◌, ◌+◌, ◌*◌, ◌<◌, ℕ, List, sym, subst, arith, slice_set}
use Rattle.d_num.specs.declared.pot.Pot.{Pot}
use Rattle.d_path.specs.Arcs.{arcs_of, intervals_of}
use Rattle.d_path.specs.Cheapest.{HasCheapest}
use Rattle.d_path.specs.Days.{IsOnWay}
use Rattle.d_path.proofs.DayLemmas.{in_month}
use Rattle.d_path.proofs.DayWalks.{on_more, walk_row}
use Rattle.d_path.proofs.days.walk_day.Goals as goal
use Rattle.d_path.proofs.days.walk_day.Goals.{After-row}

next : (c : After-row) → HasCheapest (arcs_of c.args.ways.now) (c.args.day * c.per_day-per_day.result + c.loop-i.i + 1) c.row.result.now
next c =
    let per = c.per_day-per_day.ensures in
    subst (λ (r : List Pot). HasCheapest (arcs_of c.args.ways.now) (c.args.day * c.per_day-per_day.result + c.loop-i.i + 1) r) (sym c.row.ensures)
    (walk_row (arcs_of c.args.ways.now) c.args.layers.now c.args.day c.loop-i.i c.per_day-per_day.result per (omega arith) c.requires.next_cheapest c.requires.inner)

pub first_move-taken-requires-clause-next_cheapest :
    goal.first_move-taken-requires-clause-next_cheapest
first_move-taken-requires-clause-next_cheapest c = next c

pub loop-i-preserved : goal.loop-i-preserved
loop-i-preserved c =
    let a = arcs_of c.args.ways.now in
    let i = c.loop-i.i in
    let per = c.per_day-per_day.ensures in
    let t : ℕ = c.args.day * c.per_day-per_day.result + i in
    let inside : t < intervals_of a = subst (λ (p : ℕ). c.args.day * p + i < intervals_of a) per (in_month a c.args.layers.now c.args.day i c.requires.fits c.requires.day (omega arith)) in
    let long = c.loop-i.auto.schedule in
    let one : t + 1 ≡ c.args.day * c.per_day-per_day.result + (i + 1) = omega arith in
    subst (λ (n : ℕ). IsOnWay a n c.first_move-taken.result.level (slice_set c.loop-i.schedule t c.first_move-taken.result.number)) one
    (on_more a t c.loop-i.level c.first_move-taken.result.number c.first_move-taken.result.level c.loop-i.schedule c.row.result.now (omega arith) c.loop-i.invariant (next (goal.at.loop-i-preserved c).After-row) c.first_move-taken.ensures)

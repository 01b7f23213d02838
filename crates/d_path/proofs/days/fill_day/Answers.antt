use Rattle.std.proofs.Common.{◌≡◌, ◌+◌, ◌-◌, ◌*◌, ◌<◌, ◌∙◌, ℕ, List, length, ap, sym, subst, arith}
use Rattle.d_num.specs.declared.pot.Pot.{Pot}
use Rattle.d_path.specs.Arcs.{arcs_of, intervals_of}
use Rattle.d_path.specs.Cheapest.{HasCheapest}
use Rattle.d_path.specs.Days.{per_day_of}
use Rattle.d_path.proofs.DayLemmas.{in_month, row_wide, day_fits, day_next, day_more}
use Rattle.d_path.proofs.days.fill_day.Goals as goal

pub fill_row-requires-clause-inside : goal.fill_row-requires-clause-inside
fill_row-requires-clause-inside c =
    let long = c.loop-i.invariant.long in let per = c.per_day-per_day.ensures in
    subst (λ (p : ℕ). c.args.day * p + (c.loop-i.i - 1) < intervals_of (arcs_of c.args.ways.now)) per
    (in_month (arcs_of c.args.ways.now) c.args.layers.now c.args.day (c.loop-i.i - 1) c.requires.fits c.requires.day (omega arith))

pub fill_row-requires-clause-next_cheapest : goal.fill_row-requires-clause-next_cheapest
fill_row-requires-clause-next_cheapest c =
    let a = arcs_of c.args.ways.now in
    let i = c.loop-i.i - 1 in
    let long = c.loop-i.invariant.long in let per = c.per_day-per_day.ensures in
    subst (λ (r : List Pot). HasCheapest a (c.args.day * c.per_day-per_day.result + i + 1) r) (sym c.pair_mut-row.ensures.next)
    (day_next a c.args.day i c.loop-i.i c.per_day-per_day.result c.args.layers.now c.loop-i.layers c.loop-i.invariant (omega arith) c.requires.next_cheapest (omega arith) per)

pub loop-i-preserved : goal.loop-i-preserved
loop-i-preserved c =
    let a = arcs_of c.args.ways.now in
    let old = c.args.layers.now in
    let r = c.loop-i.layers in
    let i = c.loop-i.i - 1 in
    let so = c.loop-i.invariant in
    let long = so.long in let per = c.per_day-per_day.ensures in
    let per_is : c.per_day-per_day.result ≡ per_day_of r = omega arith in
    let days : c.args.day + 1 < length r.kept = subst (λ (k : List (List Pot)). c.args.day + 1 < length k) (sym so.kept) c.requires.day in
    day_more a c.args.day i c.loop-i.i old r c.fill_row.new.row so (omega arith) (omega arith) (omega arith)
    (c.fill_row.auto.row ∙ ap length c.pair_mut-row.ensures.row)
    (row_wide a r c.args.day i (day_fits a c.args.day c.loop-i.i old r c.requires.fits so) days (omega arith))
    (subst (λ (p : ℕ). HasCheapest a (c.args.day * p + i) c.fill_row.new.row) per_is c.fill_row.ensures)

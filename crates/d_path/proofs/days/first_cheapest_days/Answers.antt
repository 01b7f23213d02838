use Rattle.std.proofs.Common.{◌≡◌, ◌-◌, ◌*◌, ◌∙◌, ℕ, [], length, ap, arith, slice_index_or}
use Rattle.d_path.specs.Arcs.{arcs_of, intervals_of}
use Rattle.d_path.specs.Days.{per_day_of}
use Rattle.d_path.proofs.DayWalks.{walk_kept, walk_end}
use Rattle.d_path.proofs.days.first_cheapest_days.Goals as goal

pub returns-clause-first : goal.returns-clause-first
returns-clause-first c _ =
    let a = arcs_of c.args.ways.now in
    let r = c.loop-day.layers in
    let so = c.loop-day.invariant in
    let day = c.loop-day.day in
    let days = c.days-day-end.ensures in
    let same : length r.kept ≡ length c.args.layers.now.kept = ap length so.kept in
    let last : day ≡ length r.kept - 1 = omega arith in
    let some = so.fits.some_day in
    let at_end : day * per_day_of r ≡ intervals_of a = ap (λ (k : ℕ). k * per_day_of r) last ∙ so.fits.intervals in
    let long = c.loop-day.auto.schedule in
    walk_end a (day * per_day_of r) c.loop-day.level c.loop-day.schedule (slice_index_or r.kept day []) c.requires.sound at_end (omega arith)
    (walk_kept a day c.args.layers.now r c.requires.cheapest so.kept so.long (omega arith)) so.on

use Rattle.std.proofs.Common.{◌≡◌, ◌+◌, ◌*◌, ◌≤◌, ℕ, length, sym, subst}
use Rattle.d_bound.proofs.DayFacts.{day_at}
use Rattle.d_bound.proofs.bounder.Bounder.turn_to.Goals as goal

pub returns-then-day-self-clause-day : goal.returns-then-day-self-clause-day
returns-then-day-self-clause-day c =
    let filled = c.requires.filled in
    let at = day_at c.args.self.now.layers c.args.t c.per_day.result c.days.result c.min-day.result _ c.per_day.ensures c.days.ensures filled.fits.some_day filled.fits.intervals c.requires.inside c.min-day.ensures in
    let long : length c.args.self.now.layers.window ≡ length c.fill_day.new.layers.window = sym c.fill_day.ensures.long in
    let moved : (c.min-day.result * (length c.fill_day.new.layers.window + 1) ≤ c.args.t) × (c.args.t ≤ (c.min-day.result + 1) * (length c.fill_day.new.layers.window + 1)) =
    subst (λ (n : ℕ). (c.min-day.result * (n + 1) ≤ c.args.t) × (c.args.t ≤ (c.min-day.result + 1) * (n + 1))) long at in
    record { begun = moved.0; ended = moved.1 }

pub returns-else-day-self-clause-day : goal.returns-else-day-self-clause-day
returns-else-day-self-clause-day c =
    let filled = c.requires.filled in
    let at = day_at c.args.self.now.layers c.args.t c.per_day.result c.days.result c.min-day.result _ c.per_day.ensures c.days.ensures filled.fits.some_day filled.fits.intervals c.requires.inside c.min-day.ensures in
    let same : (c.args.self.now.day * (length c.args.self.now.layers.window + 1) ≤ c.args.t) × (c.args.t ≤ (c.args.self.now.day + 1) * (length c.args.self.now.layers.window + 1)) =
    subst (λ (d : ℕ). (d * (length c.args.self.now.layers.window + 1) ≤ c.args.t) × (c.args.t ≤ (d + 1) * (length c.args.self.now.layers.window + 1))) c.if-day-self.false at in
    record { begun = same.0; ended = same.1 }

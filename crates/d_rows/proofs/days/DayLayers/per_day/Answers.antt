use Rattle.std.proofs.Common.{◌≡◌, ◌∙◌, ◌-◌, ap, sym, length, arith}
use Rattle.d_rows.proofs.DayLemmas.{window_long}
use Rattle.d_rows.proofs.days.DayLayers.per_day.Goals as goal

pub returns : goal.returns
returns c =
    let a = c.self.inside in
    let two = c.self.invariant.1 in
    let long : length c.args.self.now.window ≡ a.per_day - 1 = ap (λ r. length r.window) (sym c.self.view_is) ∙ window_long a.rows a.days a.per_day c.self.invariant.0 two in
    omega arith

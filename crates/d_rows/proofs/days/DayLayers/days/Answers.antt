use Rattle.std.proofs.Common.{◌∙◌, ap, sym, length}
use Rattle.d_rows.proofs.DayLemmas.{kept_long}
use Rattle.d_rows.proofs.days.DayLayers.days.Goals as goal

pub returns : goal.returns
returns c =
    let a = c.self.inside in
    ap (λ r. length r.kept) (sym c.self.view_is) ∙ kept_long a.rows a.days a.per_day c.self.invariant.0 c.self.invariant.1

use Rattle.std.proofs.Common.{◌≡◌, ◌∙◌, ◌+◌, ◌-◌, [], ap, sym, refl, arith, length, get_or-take}
use Rattle.d_rows.specs.Days.{day_row, with_day_row}
use Rattle.d_rows.proofs.DayLemmas.{kept_long, day_written}
use Rattle.d_rows.proofs.days.DayLayers.last_mut.Goals as goal

pub returns : goal.returns
returns c =
    let a = c.self.inside in
    let all = c.self.invariant.0 in
    let two = c.self.invariant.1 in
    let kept : length c.args.self.now.kept ≡ a.days + 1 = ap (λ r. length r.kept) (sym c.self.view_is) ∙ kept_long a.rows a.days a.per_day all two in
    let last : a.days ≡ length c.args.self.now.kept - 1 = omega arith in (
      (refl, λ ws. day_written a.rows a.days a.per_day all two a.days 0 ws (omega arith) (omega arith) ∙ ap (λ r. with_day_row r a.days 0 ws) c.self.view_is ∙ ap (λ d. with_day_row c.args.self.now d 0 ws) last),
      record {
        writes_back = tt;
        row = c.row_mut.ensures.row ∙ sym (get_or-take (a.days + 1) a.rows a.days [] (omega arith)) ∙ ap (λ r. day_row r a.days 0) c.self.view_is ∙ ap (λ d. day_row c.args.self.now d 0) last;
      },
    )

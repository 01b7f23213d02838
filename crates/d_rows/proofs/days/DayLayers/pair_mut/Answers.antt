use Rattle.std.proofs.Common.{◌≡◌, ◌∙◌, ◌+◌, ◌-◌, [], ap, sym, refl, arith, length, get_or}
use Rattle.d_rows.specs.Blocks.{with_row}
use Rattle.d_rows.specs.Days.{day_row, with_day_row}
use Rattle.d_rows.proofs.DayLemmas.{days_of, kept_long, window_long, day_place, day_written}
use Rattle.d_rows.proofs.days.DayLayers.pair_mut.Goals as goal

pub returns : goal.returns
returns c =
    let a = c.self.inside in
    let all = c.self.invariant.0 in
    let two = c.self.invariant.1 in
    let day = c.args.day in
    let i = c.args.i in
    let kept : length c.args.self.now.kept ≡ a.days + 1 = ap (λ r. length r.kept) (sym c.self.view_is) ∙ kept_long a.rows a.days a.per_day all two in
    let window : length c.args.self.now.window ≡ a.per_day - 1 = ap (λ r. length r.window) (sym c.self.view_is) ∙ window_long a.rows a.days a.per_day all two in (
      (
        refl,
        λ ws. ap (λ k. days_of a.rows a.days a.per_day all two (with_row a.rows k ws)) c.place-write.ensures
            ∙ day_written a.rows a.days a.per_day all two day i ws (omega arith) (omega arith) ∙ ap (λ r. with_day_row r day i ws) c.self.view_is,
      ),
      record {
        writes_back = tt;
        row = c.pair_at.ensures.row ∙ ap (λ k. get_or a.rows k []) c.place-write.ensures ∙ day_place a.rows a.days a.per_day all two day i (omega arith) (omega arith) ∙ ap (λ r. day_row r day i) c.self.view_is;
        next = c.pair_at.ensures.other ∙ ap (λ k. get_or a.rows k []) c.place-read.ensures ∙ day_place a.rows a.days a.per_day all two day (i + 1) (omega arith) (omega arith) ∙ ap (λ r. day_row r day (i + 1)) c.self.view_is;
      },
    )

use Rattle.std.proofs.Common.{◌++◌, ◌∙◌, List, ℕ, ap, codes}
use Rattle.std.proofs.lemmas.Result.{on_ok_weaker}
use Rattle.d_tariff.specs.Shown.{terms_of}
use Rattle.d_report.specs.Tariffs.{grid_lines}
use Rattle.d_report.proofs.LineFacts.{four_parts}
use Rattle.d_report.proofs.hours.put_hours.Goals as goal

pub returns : goal.returns
returns c =
    let t = terms_of c.args.tariff.now in
    let put = λ (text word : List ℕ) (grid : List (List ℕ)). text ++ grid_lines word grid in
    on_ok_weaker c.put_grid-4.result
    (λ last. four_parts c.args.text.now.items c.put_grid.new.text.items c.put_grid-2.new.text.items c.put_grid-3.new.text.items c.put_grid-4.new.text.items
    (grid_lines (codes "energy weekday ") t.energy_weekday) (grid_lines (codes "energy weekend ") t.energy_weekend)
    (grid_lines (codes "demand weekday ") t.demand_weekday) (grid_lines (codes "demand weekend ") t.demand_weekend)
    (c.in_ok-put_grid.ensures ∙ ap (put c.args.text.now.items (codes "energy weekday ")) c.weekday.ensures)
    (c.in_ok-put_grid-2.ensures ∙ ap (put c.put_grid.new.text.items (codes "energy weekend ")) c.weekend.ensures)
    (c.in_ok-put_grid-3.ensures ∙ ap (put c.put_grid-2.new.text.items (codes "demand weekday ")) c.weekday-2.ensures)
    (last ∙ ap (put c.put_grid-3.new.text.items (codes "demand weekend ")) c.weekend-2.ensures))
    c.put_grid-4.ensures

use Rattle.std.proofs.Common.{◌≡◌, ◌+◌, ◌-◌, ◌/◌, ◌≤◌, ◌∙◌, ap, arith, replicate}
use Rattle.std.proofs.Math.Path.{ap₂}
use Rattle.std.proofs.lemmas.Result.{IfOk-weaker}
use Rattle.jiff_core.specs.Calendar.{days_in_month}
use Rattle.d_num.specs.declared.pot.Pot.TheVariants.{NoWay}
use Rattle.d_rows.specs.Days.{DayRows}
use Rattle.d_batt.specs.Storage.{Storage}
use Rattle.d_bound.specs.Bounders.{AreLayersOf}
use Rattle.d_bound.proofs.LayerFacts.{layers_made}
use Rattle.d_bound.proofs.ways.layers_of.Goals as goal

pub returns : goal.returns
returns c =
    let i = c.args.problem.now in
    let fine = c.month.ensures.range in
    let days : c.from-days.result ≡ days_in_month i.year i.number = c.from-days.ensures ∙ c.days.ensures ∙ ap₂ days_in_month c.month.ensures.year c.month.ensures.number in
    let floor : c.battery-battery.result.now.floor ≡ i.storage.floor = ap (λ (s : Storage). s.floor) c.battery-battery.ensures in
    let capacity : c.battery-battery.result.now.capacity ≡ i.storage.capacity = ap (λ (s : Storage). s.capacity) c.battery-battery.ensures in
    let order : (i.storage.floor ≤ i.storage.start) × (i.storage.start ≤ i.storage.capacity) = (fine.storage.floor, fine.storage.start) in
    let levels : c.from-levels.result ≡ c.battery-battery.result.now.capacity - c.battery-battery.result.now.floor = c.from-levels.ensures in
    IfOk-weaker c.make.result
    (λ (r : DayRows). (r.kept ≡ replicate (c.from-days.result + 1) (replicate (c.from-levels.result + 1) NoWay)) × (r.window ≡ replicate (1440 / c.from-per_day.result - 1) (replicate (c.from-levels.result + 1) NoWay)))
    (AreLayersOf i)
    (λ r made. layers_made i r c.from-days.result c.from-per_day.result (c.from-levels.result + 1) fine days (c.from-per_day.ensures ∙ c.minutes.ensures) (omega (arith, order.0, order.1)) made.0 made.1)
    c.make.ensures

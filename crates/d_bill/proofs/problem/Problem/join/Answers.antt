use Rattle.std.proofs.Common.{◌<◌, All, sym, ap, subst, ◌∙◌}
use Rattle.std.specs.Option.{ForSome}
use Rattle.d_tariff.specs.Shown.{terms_of}
use Rattle.d_bill.specs.Inputs.{HasPrices}
use Rattle.d_meter.specs.Shown.{metered_of}
use Rattle.d_bill.specs.Join.{occurring_periods, demand_groups}
use Rattle.d_bill.proofs.JoinRange.{joined_fits}
use Rattle.d_bill.proofs.problem.Problem.join.Goals as goal

pub invariant_of-result : goal.invariant_of-result
invariant_of-result c =
    let terms = terms_of c.args.tariff.now in
    let meter = c.args.meter.now in
    let m = metered_of meter in
    joined_fits terms m c.args.prior c.fixed_of.result c.minimum_of.result c.in_ok-copied.field-0 _ _ _ _ _ _
    c.args.tariff.now.valid meter.month.in_range meter.complete c.in_ok-copied.ensures
    (c.periods.view_is ∙ c.in_ok-periods.ensures.value)
    (subst (All (λ number. number < 36)) (sym c.periods.view_is) c.in_ok-periods.ensures.range)
    (c.demands.view_is ∙ c.in_ok-demands.ensures.value)
    (subst (All (λ number. number < 36)) (sym c.demands.view_is) c.in_ok-demands.ensures.range)
    (c.energy.view_is ∙ c.in_ok-energy.ensures.value ∙ ap (occurring_periods terms) (c.as_slice.ensures ∙ sym c.periods.view_is))
    (subst (All (λ period. ForSome period HasPrices)) (sym c.energy.view_is) c.in_ok-energy.ensures.prices)
    (c.in_ok-groups.ensures.numbers ∙ ap (demand_groups terms) (c.as_slice-2.ensures ∙ sym c.demands.view_is))
    c.in_ok-groups.ensures.peaks
    c.in_ok-groups.ensures.prices
    c.fixed_of.ensures.size c.minimum_of.ensures.size c.in_ok-copied-2.field-0.in_range

use Rattle.std.proofs.Common.{◌<◌, arith}
use Rattle.d_meter.specs.Shown.{metered_of}
use Rattle.d_bill.specs.Join.{interval_period}
use Rattle.d_bill.proofs.JoinFacts.{all_more, map_more, interval_is}
use Rattle.d_bill.proofs.join.interval_periods.Goals as goal

pub loop-t-preserved : goal.loop-t-preserved
loop-t-preserved c =
    let added = c.in_ok-add.ensures.ok in
    let weekday = c.args.schedule.now.weekday in
    let weekend = c.args.schedule.now.weekend in
    let m = metered_of c.args.meter.now in
    let period = interval_is weekday weekend m c.loop-t.t c.from.result c.period_at.result c.from.ensures c.period_at.ensures.period in
    let range = c.period_at.ensures.range in (
      map_more (interval_period weekday weekend m) _ c.loop-t.t _ _ added c.loop-t.invariant.0 period,
      all_more (λ number. number < 36) _ _ _ added c.loop-t.invariant.1 (omega arith),
    )

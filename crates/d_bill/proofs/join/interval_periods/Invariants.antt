use Rattle.std.proofs.Common.{◌≡◌, ◌<◌, map, All}
use Rattle.std.specs.List.{range_with_len}
use Rattle.d_meter.specs.Shown.{metered_of}
use Rattle.d_bill.specs.Join.{interval_period}
use Rattle.d_bill.proofs.join.interval_periods.Given as goal

abbrev pub invariant-loop-t : goal.invariant-loop-t
invariant-loop-t l =
    (l.periods ≡ map (interval_period l.schedule.weekday l.schedule.weekend (metered_of l.meter)) (range_with_len 0 l.t))
    × All (λ number. number < 36) l.periods

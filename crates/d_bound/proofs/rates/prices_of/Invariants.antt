use Rattle.std.proofs.Common.{◌≡◌, [], map}
use Rattle.std.specs.List.{range_with_len}
use Rattle.d_bill.specs.Slopes.{slope_rate}
use Rattle.d_bound.proofs.rates.prices_of.Given as goal

-- the rates so far
abbrev pub invariant-loop-period : goal.invariant-loop-period
invariant-loop-period l = l.rates.items ≡ map (slope_rate l.problem []) (range_with_len 0 l.period)

use Rattle.std.proofs.Common.{◌≡◌, map}
use Rattle.std.specs.List.{range_with_len}
use Rattle.d_bound.specs.PlanWays.{all_powers, cost_at}
use Rattle.d_bound.proofs.costs.costs_of.Given as goal

-- the costs so far
abbrev pub invariant-loop-place : goal.invariant-loop-place
invariant-loop-place l = l.costs.items ≡ map (cost_at l.problem all_powers l.rates) (range_with_len 0 l.place)

use Rattle.std.proofs.Common.{◌≡◌, map}
use Rattle.std.specs.List.{range_with_len}
use Rattle.d_bound.specs.Bounders.{power_at_place}
use Rattle.d_bound.proofs.costs.powers_of.Given as goal

-- the powers so far
abbrev pub invariant-loop-place : goal.invariant-loop-place
invariant-loop-place l = l.powers.items ≡ map (power_at_place l.problem) (range_with_len 0 l.place)

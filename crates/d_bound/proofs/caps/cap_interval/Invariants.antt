use Rattle.std.proofs.Common.{◌≡◌, ℕ, ◌<◌, slice_index_or}
use Rattle.d_num.specs.declared.pot.Pot.TheVariants.{NoWay}
use Rattle.d_bound.specs.CapSteps.{mode_within}
use Rattle.d_bound.proofs.caps.cap_interval.Given as goal

-- the modes so far have what they cost within the cap
abbrev pub invariant-loop-mode : goal.invariant-loop-mode
invariant-loop-mode l = (m : ℕ) → m < l.mode → slice_index_or l.capped m NoWay ≡ mode_within l.cap l.costs l.powers m

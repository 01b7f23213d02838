use Rattle.std.proofs.Common.{ℕ, ◌≡◌, ◌<◌}
use Rattle.d_box.specs.Trials.{rate_at, low_slope}
use Rattle.d_box.proofs.trials.write_low.Given as goal

-- the slopes so far are those of the low ends
abbrev pub invariant-loop-index : goal.invariant-loop-index
invariant-loop-index l = (k : ℕ) → k < l.index → rate_at l.out k ≡ low_slope l.space l.energy k

use Rattle.std.proofs.Common.{◌≡◌, length, take}
use Rattle.d_tier.proofs.tiers.Tiers.copied.Given as goal

abbrev pub invariant-loop-i : goal.invariant-loop-i
invariant-loop-i l = (length l.tiers ≡ 16) × (take l.i l.tiers ≡ take l.i l.self-inside.tiers)

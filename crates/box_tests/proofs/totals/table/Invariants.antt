use Rattle.std.proofs.Common.{◌≤ℤ◌, pos}
use Rattle.d_tier.specs.Tables.{last_end}
use Rattle.box_tests.proofs.totals.table.Given as goal

abbrev pub invariant-loop-end : goal.invariant-loop-end
invariant-loop-end g l = (pos 0 ≤ℤ l.last) × (last_end l.tiers ≤ℤ l.last)

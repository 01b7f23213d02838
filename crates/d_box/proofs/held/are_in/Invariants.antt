use Rattle.std.proofs.Common.{ℕ, ◌<◌}
use Rattle.d_box.specs.Boxes.{IsIn, range_at, number_at}
use Rattle.d_box.proofs.held.are_in.Given as goal

-- the numbers so far are in their ranges
abbrev pub invariant-loop-i : goal.invariant-loop-i
invariant-loop-i l = (k : ℕ) → k < l.i → IsIn (range_at l.ranges k) (number_at l.numbers k)

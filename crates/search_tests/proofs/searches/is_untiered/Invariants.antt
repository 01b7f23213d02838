use Rattle.std.proofs.Common.{◌≡◌, ◌<◌, ℕ, false}
use Rattle.d_bill.specs.Slopes.{tiered_at}
use Rattle.search_tests.proofs.searches.is_untiered.Given as goal

-- no period so far is tiered
abbrev pub invariant-loop-period : goal.invariant-loop-period
invariant-loop-period l = (k : ℕ) → k < l.period → tiered_at l.problem k ≡ false

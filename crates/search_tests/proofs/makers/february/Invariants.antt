use Rattle.std.proofs.Common.{◌≡◌, ◌^◌, length}
use Rattle.std.specs.Prelude.{All}
use Rattle.d_num.specs.Amount.{IsWithin}
use Rattle.search_tests.proofs.makers.february.Given as goal

abbrev pub invariant-loop-interval : goal.invariant-loop-interval
invariant-loop-interval l = (length l.net ≡ l.interval) × All (IsWithin (10 ^ 9)) l.net

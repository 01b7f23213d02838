use Rattle.std.proofs.Common.{◌≡◌, ◌^◌, length}
use Rattle.std.specs.Prelude.{All}
use Rattle.d_num.specs.Amount.{IsWithin}
use Rattle.join_tests.proofs.february.february.Given as goal

abbrev pub invariant-loop-hour : goal.invariant-loop-hour
invariant-loop-hour l = (length l.net ≡ l.hour) × All (IsWithin (10 ^ 9)) l.net

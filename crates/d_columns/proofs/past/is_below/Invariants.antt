use Rattle.std.proofs.Common.{◌≡◌, take}
use Rattle.d_columns.proofs.past.is_below.Given as goal

abbrev pub invariant-loop-place : goal.invariant-loop-place
invariant-loop-place l = take l.place l.digits ≡ take l.place l.other

use Rattle.std.proofs.Common.{◌≡◌, None}
use Rattle.d_batt.specs.Kinds.{first_named}
use Rattle.d_batt.proofs.row.find_row.Given as goal

abbrev pub invariant-loop-row : goal.invariant-loop-row
invariant-loop-row l = first_named l.table l.row l.kind l.name ≡ None

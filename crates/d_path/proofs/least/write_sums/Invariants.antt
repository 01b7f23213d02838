use Rattle.std.proofs.Common.{◌≡◌, map, take}
use Rattle.d_rows.specs.Packed.{shown}
use Rattle.d_path.proofs.least.write_sums.Given as goal

-- the columns so far are written
abbrev pub invariant-loop-column : goal.invariant-loop-column
invariant-loop-column l = take l.column l.row ≡ take l.column (map shown l.sums)

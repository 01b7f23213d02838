use Rattle.d_list.specs.Firsts.{each}
use Rattle.d_batt.specs.BatteryFile.{row_refusals, modes}
use Rattle.d_batt.specs.Checks.{Passes}
use Rattle.d_batt.specs.Numbers.{Reads}
use Rattle.d_batt.proofs.row.read_rows.Given as goal

abbrev pub invariant-loop-row : goal.invariant-loop-row
invariant-loop-row l = Passes (λ reader. each l.row (row_refusals reader l.table)) × Reads (λ reader. modes reader l.table l.row) l.modes

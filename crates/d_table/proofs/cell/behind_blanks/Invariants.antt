use Rattle.std.proofs.Common.{◌≡◌, ◌+◌, ◌-◌, ◌≤◌, length, drop}
use Rattle.std.specs.List.{prefix_len}
use Rattle.d_table.specs.Table.{is_blank}
use Rattle.d_table.proofs.cell.behind_blanks.Given as goal

abbrev pub invariant-loop-start : goal.invariant-loop-start
invariant-loop-start l = record {
  within : l.start ≤ length l.field;
  passed : l.start + prefix_len is_blank (drop l.start l.field) ≡ prefix_len is_blank l.field;
}

abbrev pub decreases-loop-start : goal.decreases-loop-start
decreases-loop-start l = length l.field - l.start

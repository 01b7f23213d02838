use Rattle.std.proofs.Common.{◌≡◌, ◌^◌, length, map, take, drop, All}
use Rattle.d_num.specs.Amount.{IsWithin}
use Rattle.d_list.specs.Firsts.{each}
use Rattle.d_meter.specs.Readings.{row_refusals, net_of}
use Rattle.d_meter.specs.Checks.{Passes, Reads}
use Rattle.d_meter.proofs.read.read_rows.Given as goal

abbrev pub invariant-loop-row : goal.invariant-loop-row
invariant-loop-row l = record {
  passes : Passes (λ reader. each l.row (row_refusals reader l.fn.table l.fn.head.month.year l.fn.head.month.number l.fn.head.minutes));
  read : Reads (λ reader. map (net_of reader) (take l.row (drop 1 l.fn.table))) l.net;
  long : length l.net ≡ l.row;
  small : All (IsWithin (10 ^ 9)) l.net;
}

use Rattle.std.proofs.Common.{◌≡◌, ◌-◌, ◌≤◌, length, true}
use Rattle.d_desk.proofs.Loading.{IsLoading}
use Rattle.d_desk.proofs.load.load_file.Given as goal

abbrev pub invariant-loop-bytes : goal.invariant-loop-bytes
invariant-loop-bytes g l = record {
  limit : l.limit-2 ≡ l.fn.limit;
  within : length l.bytes.items ≤ l.limit-2;
  taken : g.D.Desk.taken l.desk ≡ length l.bytes.items;
  input : g.D.Desk.input_open l.desk ≡ true;
  output : g.D.Desk.output_open l.desk ≡ g.D.Desk.output_open l.fn.desk;
  later : g.D.Desk.faults l.fn.desk ≤ g.D.Desk.faults l.desk;
  loading : g.D.Desk.tells → IsLoading l.fn.name (g.D.Desk.scene l.fn.desk) (g.D.Desk.scene l.desk) l.bytes.items;
}

abbrev pub decreases-loop-bytes : goal.decreases-loop-bytes
decreases-loop-bytes g l = l.limit-2 - length l.bytes.items

use Rattle.std.proofs.Common.{◌≡◌, Some, take}
use Rattle.d_text.specs.Brackets.{list_reader, list_level, IsListScan}
use Rattle.d_text.proofs.ReaderFacts.{run}
use Rattle.d_text.proofs.items.split_list.Given as goal

abbrev pub invariant-loop-place : goal.invariant-loop-place
invariant-loop-place l = record {
  reads : run list_reader 0 (take l.place l.cell) list_reader.start ≡ Some (list_level l.scan);
  room : IsListScan l.scan;
}

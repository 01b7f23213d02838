use Rattle.std.proofs.Common.{◌≡◌, Some, take}
use Rattle.d_text.specs.Brackets.{grid_reader, grid_level, IsGridScan}
use Rattle.d_text.proofs.ReaderFacts.{run}
use Rattle.d_text.proofs.grid.read_grid.Given as goal

abbrev pub invariant-loop-place : goal.invariant-loop-place
invariant-loop-place l = record {
  reads : run grid_reader 0 (take l.place l.cell) grid_reader.start ≡ Some (grid_level l.scan);
  room : IsGridScan l.scan;
}

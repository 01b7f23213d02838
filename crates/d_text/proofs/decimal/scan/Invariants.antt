use Rattle.std.proofs.Common.{◌≡◌, Some, take}
use Rattle.d_text.specs.Scan.{Holds, IsShort}
use Rattle.d_text.specs.declared.scan.Phase.TheVariants.{Start}
use Rattle.d_text.proofs.PhaseFacts.{run}
use Rattle.d_text.proofs.decimal.scan.Given as goal

abbrev pub invariant-loop-place : goal.invariant-loop-place
invariant-loop-place l = record {
  runs : run (take l.place l.cell) Start ≡ Some l.scan.phase;
  holds : Holds (take l.place l.cell) l.scan;
  short : IsShort l.place l.scan;
}

use Rattle.std.proofs.Common.{◌≡◌, ◌++◌, map, take}
use Rattle.d_report.specs.Shown.{shown_byte}
use Rattle.d_report.proofs.shown.put_shown.Given as goal

abbrev pub invariant-loop-place : goal.invariant-loop-place
invariant-loop-place l = l.text.items ≡ l.fn.text.items ++ map shown_byte (take l.place l.cell)

use Rattle.std.proofs.Common.{◌≡◌, ◌++◌, take}
use Rattle.std.specs.List.{flat_map}
use Rattle.d_certline.specs.Lines.{spaced}
use Rattle.d_cert.proofs.save.put_pots.Given as goal

-- what was put so far
abbrev pub invariant-loop-pot : goal.invariant-loop-pot
invariant-loop-pot l = l.line.items ≡ l.fn.line.items ++ flat_map spaced (take l.pot-index l.row)

use Rattle.std.proofs.Common.{◌≡◌, ◌++◌, ◌∷◌, take, pos}
use Rattle.std.specs.List.{flat_map}
use Rattle.d_certline.specs.Wholes.{whole}
use Rattle.d_cert.proofs.save.put_modes.Given as goal

-- what was put so far
abbrev pub invariant-loop-mode : goal.invariant-loop-mode
invariant-loop-mode l = l.line.items ≡ l.fn.line.items ++ flat_map (λ m. 32 ∷ whole (pos m)) (take l.mode-index l.modes)

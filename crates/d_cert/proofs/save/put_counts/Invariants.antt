use Rattle.std.proofs.Common.{◌≡◌, ◌++◌, ◌∷◌, take, pos}
use Rattle.std.specs.List.{flat_map}
use Rattle.d_certline.specs.Wholes.{whole}
use Rattle.d_cert.proofs.save.put_counts.Given as goal

-- what was put so far
abbrev pub invariant-loop-count : goal.invariant-loop-count
invariant-loop-count l = l.line.items ≡ l.fn.line.items ++ flat_map (λ n. 32 ∷ whole (pos n)) (take l.count-index l.counts)

use Rattle.std.proofs.Common.{◌+◌}
use Rattle.d_path.specs.Arcs.{arcs_of}
use Rattle.d_path.proofs.SumLemmas.{AreLoweredBefore}
use Rattle.d_path.proofs.least.lower_sums.Given as goal

-- the columns of the span so far are lowered
abbrev pub invariant-loop-i : goal.invariant-loop-i
invariant-loop-i l = AreLoweredBefore (arcs_of l.ways) l.step l.fn.cost l.next l.fn.sums l.sums (l.span.from + l.i)

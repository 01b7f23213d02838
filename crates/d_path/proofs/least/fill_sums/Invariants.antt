use Rattle.d_path.specs.Arcs.{arcs_of}
use Rattle.d_path.proofs.SumLemmas.{AreLeastSums}
use Rattle.d_path.proofs.least.fill_sums.Given as goal

-- each sum is the least over the moves so far
abbrev pub invariant-loop-number : goal.invariant-loop-number
invariant-loop-number l = AreLeastSums (arcs_of l.ways) l.costs l.next l.sums l.number

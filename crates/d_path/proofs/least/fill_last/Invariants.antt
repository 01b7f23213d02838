use Rattle.d_path.specs.Arcs.{arcs_of, intervals_of}
use Rattle.d_path.proofs.RowLemmas.{AreCheapestBelow}
use Rattle.d_path.proofs.least.fill_last.Given as goal

-- the columns so far have the least costs
abbrev pub invariant-loop-column : goal.invariant-loop-column
invariant-loop-column l = AreCheapestBelow (arcs_of l.ways) (intervals_of (arcs_of l.ways)) l.row l.column

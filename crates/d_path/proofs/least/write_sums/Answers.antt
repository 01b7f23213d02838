use Rattle.std.proofs.Common.{arith, rules, ◌∙◌, ap, pos, slice_index_or}
use Rattle.std.specs.Int.{w128}
use Rattle.std.proofs.lemmas.Int.{to_z-of_z}
use Rattle.d_rows.specs.Packed.{shown}
use Rattle.d_path.proofs.SumLemmas.{written_more}
use Rattle.d_path.proofs.least.write_sums.Goals as goal

pub loop-column-preserved : goal.loop-column-preserved
loop-column-preserved c = written_more c.args.sums.now c.loop-column.row c.loop-column.column c.of.result (omega arith) (omega arith) c.loop-column.invariant
    (c.of.ensures ∙ ap shown (to_z-of_z w128 (slice_index_or c.args.sums.now c.loop-column.column (pos 0)) (search rules)))

use Rattle.std.proofs.Common.{◌≡◌, pos, ◌+◌, ◌<◌, length, arith, refl}
use Rattle.d_path.specs.Arcs.{arcs_of, intervals_of}
use Rattle.d_path.proofs.RowLemmas.{columns_more, end_at, end_below}
use Rattle.d_path.proofs.least.fill_last.Goals as goal
use Rattle.d_path.proofs.least.fill_last.Goals.{then-level-ways, else-level-ways}

pub loop-column-preserved : goal.loop-column-preserved
loop-column-preserved c =
    let a = arcs_of c.args.ways.now in
    let level = c.args.ways.now.floor + c.loop-column.column in
    let inside : c.loop-column.column < length c.loop-column.row = omega arith in
    columns_more a (intervals_of a) c.loop-column.row c.loop-column.column level c.if-level-ways.entry c.loop-column.invariant inside refl
    (elim c.if-level-ways.branch [
      | then-level-ways w ↦ rw (w.entry-is, w.no_way.ensures) (end_below a level c.requires.sound w.if-level-ways.true)
      | else-level-ways w ↦
          let nothing : c.unwrap-nothing.result ≡ pos 0 = rw c.unwrap-nothing.ensures at c.new.ensures.value in
          rw (w.entry-is, w.to.ensures, nothing) (end_at a level c.requires.sound w.if-level-ways.false)
    ])

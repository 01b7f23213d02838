use Rattle.std.proofs.Common.{arith, ◌∙◌}
use Rattle.d_columns.specs.Ignored.{is_ignored}
use Rattle.d_urdb.specs.Shown.{row_of}
use Rattle.d_urdb.proofs.KeptColumns.{kept_here, left_here, all_kept}
use Rattle.d_urdb.proofs.row.Record.ignored_columns.Goals.{then-is_ignored+in_ok-add, else-is_ignored}
use Rattle.d_urdb.proofs.row.Record.ignored_columns.Goals as goal

pub loop-column-preserved : goal.loop-column-preserved
loop-column-preserved c =
    let test = is_ignored (row_of c.args.self.now) in
    let column = c.loop-column.column in
    elim c.if-is_ignored.branch [
      | then-is_ignored+in_ok-add w ↦
          kept_here test column c.loop-column.ignored c.if-is_ignored.ignored (w.ignored-is ∙ w.in_ok-add.ensures.ok) c.loop-column.invariant w.if-is_ignored.ensures
      | else-is_ignored w ↦ w.ignored-is ∙ left_here test column c.loop-column.ignored c.loop-column.invariant w.if-is_ignored.ensures
    ]

pub returns : goal.returns
returns c = all_kept (row_of c.args.self.now) c.loop-column.column c.loop-column.ignored (omega arith) c.loop-column.invariant

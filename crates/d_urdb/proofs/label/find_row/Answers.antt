use Rattle.std.proofs.Common.{◌∙◌, true, false, Err, sym, ap}
use Rattle.d_urdb.proofs.LabelFacts.{label_test, only_other, only_here, second_refused}
use Rattle.d_urdb.proofs.label.find_row.Goals as goal
use Rattle.d_urdb.proofs.label.find_row.Goals.{then-eq+else-is_some, else-eq}

pub returns-then-is_some-clause-refused : goal.returns-then-is_some-clause-refused
returns-then-is_some-clause-refused c = λ reader rule.
    let within = c.rows-row-end.ensures.there c.loop-row.row c.loop-row-test.true in
    let here = label_test c.args.table.now c.args.label.now c.cell.result.now c.in-Some.column c.loop-row.row c.eq.result true c.cell.ensures c.eq.ensures c.if-eq.true in
    second_refused c.args.table.now c.args.label.now c.in-Some.column c.loop-row.row c.loop-row.found reader rule
    (sym c.is_some.ensures ∙ c.if-is_some.true) within here c.loop-row.invariant (sym c.in-Some.ensures.value)
    ∙ ap Err (sym c.refusal-then-is_some.ensures)

pub loop-row-preserved : goal.loop-row-preserved
loop-row-preserved c =
    let rows = c.args.table.now in
    let label = c.args.label.now in
    let within = c.rows-row-end.ensures.there c.loop-row.row c.loop-row-test.true in
    elim c.if-eq.branch [
      | then-eq+else-is_some w ↦
          let here = label_test rows label c.cell.result.now c.in-Some.column c.loop-row.row c.eq.result true c.cell.ensures c.eq.ensures w.if-eq.true in
          rw w.found-is (only_here rows label c.in-Some.column c.loop-row.row c.loop-row.found (sym w.is_some.ensures ∙ w.if-is_some.false) within here c.loop-row.invariant)
      | else-eq w ↦
          let other = label_test rows label c.cell.result.now c.in-Some.column c.loop-row.row c.eq.result false c.cell.ensures c.eq.ensures w.if-eq.false in
          rw w.found-is (only_other rows label c.in-Some.column c.loop-row.row c.loop-row.found within other c.loop-row.invariant)
    ]

use Rattle.std.proofs.Common.{◌≡◌, ◌∙◌, ◌++◌, sym, ap, take, filter, refl}
use Rattle.std.proofs.lemmas.Result.{IfOk-weaker}
use Rattle.d_table.specs.Table.{rows_of, row_at, kept_rows, has_value, column_of}
use Rattle.d_table.specs.Choice.{kept_of}
use Rattle.d_table.specs.Reading.{rows_left}
use Rattle.d_table.proofs.RowFacts.{kept_are, filter-none}
use Rattle.d_table.proofs.read.read_where.Goals as goal
use Rattle.d_table.proofs.read.read_where.Goals.{in-Some-position, in-None-position}

pub returns-in-Some-clause-value : goal.returns-in-Some-clause-value
returns-in-Some-clause-value c =
    let header = rw c.in-Some.is at c.in_ok-table.ensures.header in
    let name = c.args.column.now in
    let value = c.args.value.now in
    let left = rows_left c.read_header.new.reader in
    let test = has_value (column_of name (row_at c.in-Some.table 0)) value in
    let chosen : kept_of c.match-position.choice left ≡ take 2 (filter test left) = elim c.match-position.branch [
      | in-Some-position w ↦ rw (w.choice-is, ← c.position.ensures.value, w.in-Some-position.is) refl
      | in-None-position w ↦ rw (w.choice-is, ← c.position.ensures.value, w.in-None-position.is) (ap (take 2) (sym (filter-none left)))
    ] in
    let kept = ap (λ rows. c.in-Some.table ++ rows) chosen ∙ sym (kept_are name value c.in-Some.table left header.0) in
    let whole = kept ∙ ap (λ rows. kept_rows name value rows) (sym header.1 ∙ c.reader_of-reader.ensures.rows) in
    IfOk-weaker c.read_rows.result _ (λ table. table ≡ kept_rows name value (rows_of c.args.bytes.now)) (λ table is. is ∙ whole) c.read_rows.ensures.value

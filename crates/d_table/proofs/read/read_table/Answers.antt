use Rattle.std.proofs.Common.{◌≡◌, ◌∙◌, sym}
use Rattle.std.proofs.lemmas.Result.{IfOk-weaker}
use Rattle.d_table.specs.Table.{rows_of}
use Rattle.d_table.proofs.read.read_table.Goals as goal

pub returns-in-Some-clause-value : goal.returns-in-Some-clause-value
returns-in-Some-clause-value c =
    let header = rw c.in-Some.is at c.in_ok-table.ensures.header in
    let whole = sym header.1 ∙ c.reader_of-reader.ensures.rows in
    IfOk-weaker c.read_rows.result _ (λ table. table ≡ rows_of c.args.bytes.now) (λ table is. is ∙ whole) c.read_rows.ensures.value

use Rattle.std.proofs.Common.{◌≡◌, ◌∙◌, ◌<◌, ap, arith, rules, length, bytes_eq}
use Rattle.std.proofs.lemmas.List.{length-map}
use Rattle.csv.specs.Records.{fields_of}
use Rattle.std.specs.Str.{str_to_ascii_lowercase}
use Rattle.indexmap.proofs.CallerLemmas.{insert_entry-new}
use Rattle.d_table.specs.Table.{cell_in, trimmed}
use Rattle.d_table.specs.Cells.{cells_of}
use Rattle.d_table.proofs.ColumnFacts.{new_name, known_name, missing}
use Rattle.d_table.proofs.table.columns_of.Goals as goal
use Rattle.d_table.proofs.table.columns_of.Goals.{then-not-contains_key+in_ok-insert, else-not-contains_key}

pub loop-column-preserved : goal.loop-column-preserved
loop-column-preserved c =
    let within : c.loop-column.column < length (cells_of c.args.header.now) =
    omega (arith, c.loop-column-test.true, c.len-column-end.ensures, length-map (fields_of c.args.header.now) trimmed) in
    let spelt : c.in_ok-name.name.items ≡ str_to_ascii_lowercase (cell_in (cells_of c.args.header.now) c.loop-column.column) =
    c.in_ok-name.ensures.value ∙ ap str_to_ascii_lowercase c.cell_of.ensures in
    elim c.if-not-contains_key.branch [
      | then-not-contains_key+in_ok-insert w ↦
          let none = missing c.loop-column.columns.entries c.in_ok-name.name (search rules) in
          let entries = w.in_ok-insert.ensures.entries ∙ insert_entry-new (λ x y. bytes_eq x.items y.items) c.loop-column.columns c.in_ok-name.name c.loop-column.column none in
          rw (w.columns-is, entries) (new_name c.loop-column.columns.entries (cells_of c.args.header.now) c.loop-column.column c.in_ok-name.name within spelt c.loop-column.invariant)
      | else-not-contains_key w ↦
          rw w.columns-is (known_name c.loop-column.columns.entries (cells_of c.args.header.now) c.loop-column.column c.in_ok-name.name within spelt (search rules) c.loop-column.invariant)
    ]

use Rattle.std.proofs.Common.{◌≡◌, ◌≢◌, ◌∙◌, ◌∷◌, [], sym, ap, rules, length}
use Rattle.std.proofs.lemmas.List.{length-map}
use Rattle.csv.specs.Records.{fields_of}
use Rattle.d_table.specs.Table.{row_at, trimmed}
use Rattle.d_table.specs.Cells.{cells_of}
use Rattle.d_table.specs.Reading.{rows_left}
use Rattle.d_table.proofs.RowFacts.{none_read, first_row, all_read, odd_read, row_read}
use Rattle.d_table.proofs.read.read_rows.Goals as goal

pub loop-number-init : goal.loop-number-init
loop-number-init c = record {
  reading = c.requires.reading;
  read = none_read c.args.header (rows_left c.args.reader.now) c.args.choice;
}

pub returns-then-not-branch-clause-value : goal.returns-then-not-branch-clause-value
returns-then-not-branch-clause-value c =
    let ended : rows_left c.loop-number.reader ≡ [] = c.in_ok-next_row.ensures.end (search rules) in
    (all_read c.args.header (rows_left c.args.reader.now) c.args.choice c.loop-number.number c.loop-number.table (rows_left c.loop-number.reader)
    c.loop-number.invariant.read c.requires.header ended).0

pub returns-then-not-branch-clause-rectangular : goal.returns-then-not-branch-clause-rectangular
returns-then-not-branch-clause-rectangular c =
    let ended : rows_left c.loop-number.reader ≡ [] = c.in_ok-next_row.ensures.end (search rules) in
    (all_read c.args.header (rows_left c.args.reader.now) c.args.choice c.loop-number.number c.loop-number.table (rows_left c.loop-number.reader)
    c.loop-number.invariant.read c.requires.header ended).1

pub returns-then-len-width-clause-fault : goal.returns-then-len-width-clause-fault
returns-then-len-width-clause-fault c =
    let next : rows_left c.loop-number.reader ≡ cells_of c.next_row.new.row ∷ rows_left c.next_row.new.reader = c.in_ok-next_row.ensures.row (search rules) in
    let size = c.len.ensures ∙ sym (length-map (fields_of c.next_row.new.row) trimmed) in
    let odd : length (cells_of c.next_row.new.row) ≢ length (row_at c.args.header 0) = λ same. c.if-len-width.true (size ∙ same ∙ sym c.columns-width.ensures.count) in
    odd_read c.args.header (rows_left c.args.reader.now) c.args.choice c.loop-number.number c.loop-number.table (rows_left c.loop-number.reader)
    (cells_of c.next_row.new.row) (rows_left c.next_row.new.reader) c.loop-number.invariant.read c.requires.header next odd

pub keep-requires-clause-there : goal.keep-requires-clause-there
keep-requires-clause-there c =
    (first_row c.args.header (rows_left c.args.reader.now) c.args.choice c.loop-number.number c.loop-number.table (rows_left c.loop-number.reader)
    c.loop-number.invariant.read c.requires.header).0

pub keep-requires-clause-width : goal.keep-requires-clause-width
keep-requires-clause-width c =
    let first = (first_row c.args.header (rows_left c.args.reader.now) c.args.choice c.loop-number.number c.loop-number.table (rows_left c.loop-number.reader)
    c.loop-number.invariant.read c.requires.header).1 in
    sym c.len.ensures ∙ c.if-len-width.false ∙ c.columns-width.ensures.count ∙ ap length (sym first)

pub loop-number-preserved : goal.loop-number-preserved
loop-number-preserved c =
    let next : rows_left c.loop-number.reader ≡ cells_of c.next_row.new.row ∷ rows_left c.next_row.new.reader = c.in_ok-next_row.ensures.row (search rules) in
    let long : length (cells_of c.next_row.new.row) ≡ length (row_at c.args.header 0) =
    length-map (fields_of c.next_row.new.row) trimmed ∙ sym c.len.ensures ∙ c.if-len-width.false ∙ c.columns-width.ensures.count in
    record {
      reading = c.in_ok-next_row.ensures.reading (search rules);
      read = rw c.in_ok-table.ensures.value (row_read c.args.header (rows_left c.args.reader.now) c.args.choice c.loop-number.number c.loop-number.table
          (rows_left c.loop-number.reader) (cells_of c.next_row.new.row) (rows_left c.next_row.new.reader) c.loop-number.invariant.read c.requires.header next long);
    }

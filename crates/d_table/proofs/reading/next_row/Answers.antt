use Rattle.csv.specs.Records.{fields_of}
use Rattle.d_table.proofs.ReadingFacts.{row_taken, none_left}
use Rattle.d_table.proofs.reading.next_row.Goals as goal

pub returns-clause-reading : goal.returns-clause-reading
returns-clause-reading c found =
    let taken = rw found at (c.in-Ok.ensures.reads c.requires.trim c.requires.ready) in
    (row_taken c.args.reader.now c.read_byte_record.new.self (fields_of c.read_byte_record.new.row) c.requires taken (c.in-Ok.ensures.ready c.requires.trim)).0

pub returns-clause-row : goal.returns-clause-row
returns-clause-row c found =
    let taken = rw found at (c.in-Ok.ensures.reads c.requires.trim c.requires.ready) in
    (row_taken c.args.reader.now c.read_byte_record.new.self (fields_of c.read_byte_record.new.row) c.requires taken (c.in-Ok.ensures.ready c.requires.trim)).1

pub returns-clause-end : goal.returns-clause-end
returns-clause-end c missing =
    let taken = rw missing at (c.in-Ok.ensures.reads c.requires.trim c.requires.ready) in
    none_left c.args.reader.now c.read_byte_record.new.self (fields_of c.read_byte_record.new.row) c.requires taken

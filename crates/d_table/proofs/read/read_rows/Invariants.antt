use Rattle.d_table.specs.Reading.{IsReading, rows_left}
use Rattle.d_table.proofs.RowFacts.{AreRead}
use Rattle.d_table.proofs.read.read_rows.Given as goal

abbrev pub invariant-loop-number : goal.invariant-loop-number
invariant-loop-number l = record {
  reading : IsReading l.reader;
  read : AreRead l.fn.header (rows_left l.fn.reader) l.choice l.number l.table (rows_left l.reader);
}

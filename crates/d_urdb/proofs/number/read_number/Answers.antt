use Rattle.d_urdb.proofs.NumberReads.{filled, number_read}
use Rattle.d_urdb.proofs.number.read_number.Goals as goal

pub returns-clause-value : goal.returns-clause-value
returns-clause-value c =
    number_read c.args.limit c.args.cell.now c.read_decimal.result (filled c.args.cell.now c.if-is_empty.ensures)
    c.read_decimal.ensures.value c.read_decimal.ensures.fault

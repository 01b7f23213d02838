use Rattle.std.proofs.Common.{◌∙◌, sym, ap}
use Rattle.d_meter.proofs.CellFacts.{net_read}
use Rattle.d_meter.proofs.row.net_at.Goals as goal

pub returns-clause-value : goal.returns-clause-value
returns-clause-value c =
    λ reader are. ap reader.net (sym c.cell.ensures) ∙ net_read reader are c.cell.result.now c.read_decimal.result c.read_decimal.ensures.value c.read_decimal.ensures.fault

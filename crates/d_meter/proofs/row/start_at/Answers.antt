use Rattle.std.proofs.Common.{◌∙◌, sym, ap}
use Rattle.d_meter.proofs.CellFacts.{cell_start_read}
use Rattle.d_meter.proofs.row.start_at.Goals as goal

pub returns-clause-value : goal.returns-clause-value
returns-clause-value c =
    λ reader are. ap reader.start (sym c.cell.ensures) ∙ cell_start_read reader are c.cell.result.now c.read_start.result c.read_start.ensures.none c.read_start.ensures.some

use Rattle.d_meter.specs.Readings.{net_at}
use Rattle.d_meter.proofs.RowFacts.{net_passes, net_refuses}
use Rattle.d_meter.proofs.row.read_net.Goals as goal

pub returns-in-Ok-clause-refusals : goal.returns-in-Ok-clause-refusals
returns-in-Ok-clause-refusals c =
    λ reader are. net_passes (net_at reader c.args.table.now c.args.row) c.in-Ok.net c.args.row (c.in-Ok.ensures.value reader are)

pub returns-in-Err-clause-refusals : goal.returns-in-Err-clause-refusals
returns-in-Err-clause-refusals c =
    λ reader are. net_refuses (net_at reader c.args.table.now c.args.row) c.in-Err.fault c.refusal.result c.args.row (c.in-Err.ensures.value reader are) c.refusal.ensures

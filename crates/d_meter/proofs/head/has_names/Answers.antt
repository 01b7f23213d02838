use Rattle.d_table.specs.Table.{row_at}
use Rattle.d_meter.proofs.HeadFacts.{named}
use Rattle.d_meter.proofs.head.has_names.Goals as goal

pub returns-clause-value : goal.returns-clause-value
returns-clause-value c = named (row_at c.args.table.now 0) c.has_header.result c.has_header.ensures

use Rattle.d_table.proofs.BlockFacts.{block_rectangular}
use Rattle.d_table.proofs.table.Table.columns.Goals as goal

pub returns-else-self-eq0-clause-rectangular : goal.returns-else-self-eq0-clause-rectangular
returns-else-self-eq0-clause-rectangular c =
    let i = c.self.inside in
    rw (← c.self.view_is) (block_rectangular i.width i.count i.cells c.self.invariant.0)

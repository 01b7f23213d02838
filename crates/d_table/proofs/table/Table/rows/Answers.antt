use Rattle.std.proofs.Common.{◌≡◌, ◌∙◌, length, ap, sym, arith, rules}
use Rattle.d_table.proofs.BlockFacts.{block_rectangular, length-block_rows}
use Rattle.d_table.proofs.table.Table.rows.Goals as goal

pub returns-clause-count : goal.returns-clause-count
returns-clause-count c =
    let i = c.self.inside in
    let count : length c.args.self.now ≡ i.count = ap length (sym c.self.view_is) ∙ length-block_rows i.width i.count i.cells in
    search rules

pub returns-clause-there : goal.returns-clause-there
returns-clause-there c row lt =
    let i = c.self.inside in
    let count : length c.args.self.now ≡ i.count = ap length (sym c.self.view_is) ∙ length-block_rows i.width i.count i.cells in
    let result = c.saturating_sub.ensures in
    omega arith

pub returns-clause-rectangular : goal.returns-clause-rectangular
returns-clause-rectangular c =
    let i = c.self.inside in
    rw (← c.self.view_is) (block_rectangular i.width i.count i.cells c.self.invariant.0)

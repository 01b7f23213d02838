use Rattle.std.proofs.Common.{◌∙◌, ap, arith}
use Rattle.d_table.specs.Table.{row_at, cell_in}
use Rattle.d_table.proofs.BlockFacts.{block_cell, block_place, first_there, first_width}
use Rattle.d_table.proofs.table.Table.name.Goals as goal

pub at-requires : goal.at-requires
at-requires c =
    let i = c.self.inside in
    let there = first_there i.width i.count i.cells c.args.self.now c.args.column c.self.view_is c.requires in
    let width = first_width i.width i.count i.cells c.args.self.now c.self.view_is c.self.invariant.0 there in
    block_place i.width i.count 0 c.args.column i.cells c.self.invariant.0 there (omega (arith, c.requires))

pub returns : goal.returns
returns c =
    let i = c.self.inside in
    let there = first_there i.width i.count i.cells c.args.self.now c.args.column c.self.view_is c.requires in
    let width = first_width i.width i.count i.cells c.args.self.now c.self.view_is c.self.invariant.0 there in
    c.at.ensures ∙ block_cell i.width i.count 0 c.args.column i.cells there (omega (arith, c.requires))
    ∙ ap (λ rows. cell_in (row_at rows 0) c.args.column) c.self.view_is

use Rattle.std.proofs.Common.{◌≡◌, ◌∙◌, ◌+◌, length, ap, sym, arith}
use Rattle.d_table.specs.Table.{row_at, cell_in}
use Rattle.d_table.proofs.BlockFacts.{block_cell, block_place, block_width, length-block_rows}
use Rattle.d_table.proofs.table.Table.cell.Goals as goal

pub overflow_add-row : goal.overflow_add-row
overflow_add-row c =
    let i = c.self.inside in
    let count : length c.args.self.now ≡ i.count = ap length (sym c.self.view_is) ∙ length-block_rows i.width i.count i.cells in
    record { fits = omega (arith, c.requires.row) }

pub at-requires : goal.at-requires
at-requires c =
    let i = c.self.inside in
    let count : length c.args.self.now ≡ i.count = ap length (sym c.self.view_is) ∙ length-block_rows i.width i.count i.cells in
    let width : length (row_at c.args.self.now 0) ≡ i.width =
    ap (λ rows. length (row_at rows 0)) (sym c.self.view_is) ∙ block_width i.width i.count 0 i.cells c.self.invariant.0 (omega (arith, c.requires.row)) in
    block_place i.width i.count (c.args.row + 1) c.args.column i.cells c.self.invariant.0 (omega (arith, c.requires.row)) (omega (arith, c.requires.column))

pub returns : goal.returns
returns c =
    let i = c.self.inside in
    let count : length c.args.self.now ≡ i.count = ap length (sym c.self.view_is) ∙ length-block_rows i.width i.count i.cells in
    let width : length (row_at c.args.self.now 0) ≡ i.width =
    ap (λ rows. length (row_at rows 0)) (sym c.self.view_is) ∙ block_width i.width i.count 0 i.cells c.self.invariant.0 (omega (arith, c.requires.row)) in
    c.at.ensures ∙ block_cell i.width i.count (c.args.row + 1) c.args.column i.cells (omega (arith, c.requires.row)) (omega (arith, c.requires.column))
    ∙ ap (λ rows. cell_in (row_at rows (c.args.row + 1)) c.args.column) c.self.view_is

use Rattle.std.proofs.Common.{inr, refl}
use Rattle.d_table.specs.Table.{cell_in}
use Rattle.d_batt.specs.Kinds.{cells_at}
use Rattle.d_batt.proofs.RowFacts.{mode_unread, mode_beyond, mode_passes, mode_read}
use Rattle.d_batt.proofs.row.read_mode.Goals as goal

pub returns-then-are_unread-clause-refusals : goal.returns-then-are_unread-clause-refusals
returns-then-are_unread-clause-refusals c =
    inr (mode_unread c.args.table.now c.args.row (cell_in (cells_at c.args.table.now c.args.row) 1) c.cell.result.now c.cell-2.result.now c.cell-3.result.now c.cell-4.result.now
    c.read_whole-change.result c.read_whole-grid.result c.read_level-low.result c.read_level-high.result refl c.cell.ensures c.cell-2.ensures
    c.cell-3.ensures c.cell-4.ensures c.read_whole-change.ensures c.read_whole-grid.ensures c.read_level-low.ensures c.read_level-high.ensures
    c.are_unread.result c.are_unread.ensures c.if-are_unread.true)

pub returns-in-Some-clause-refusals : goal.returns-in-Some-clause-refusals
returns-in-Some-clause-refusals c =
    mode_passes c.args.table.now c.args.row c.cell-5.result.now c.cell.result.now c.cell-2.result.now c.cell-3.result.now c.cell-4.result.now
    c.read_whole-change.result c.read_whole-grid.result c.read_level-low.result c.read_level-high.result c.cell-5.ensures c.cell.ensures c.cell-2.ensures
    c.cell-3.ensures c.cell-4.ensures c.read_whole-change.ensures c.read_whole-grid.ensures c.read_level-low.ensures c.read_level-high.ensures
    c.are_unread.result c.in-Some.mode c.are_unread.ensures c.if-are_unread.false c.in-Some.ensures

pub returns-in-Some-clause-mode : goal.returns-in-Some-clause-mode
returns-in-Some-clause-mode c =
    mode_read c.args.table.now c.args.row c.cell-5.result.now c.cell.result.now c.cell-2.result.now c.cell-3.result.now c.cell-4.result.now
    c.read_whole-change.result c.read_whole-grid.result c.read_level-low.result c.read_level-high.result c.cell-5.ensures c.cell.ensures c.cell-2.ensures
    c.cell-3.ensures c.cell-4.ensures c.read_whole-change.ensures c.read_whole-grid.ensures c.read_level-low.ensures c.read_level-high.ensures
    c.in-Some.mode c.in-Some.ensures

pub returns-in-None-clause-refusals : goal.returns-in-None-clause-refusals
returns-in-None-clause-refusals c =
    inr (mode_beyond c.args.table.now c.args.row c.cell-5.result.now c.cell.result.now c.cell-2.result.now c.cell-3.result.now c.cell-4.result.now
    c.read_whole-change.result c.read_whole-grid.result c.read_level-low.result c.read_level-high.result c.cell-5.ensures c.cell.ensures c.cell-2.ensures
    c.cell-3.ensures c.cell-4.ensures c.read_whole-change.ensures c.read_whole-grid.ensures c.read_level-low.ensures c.read_level-high.ensures
    c.are_unread.result c.are_unread.ensures c.if-are_unread.false c.in-None.ensures)

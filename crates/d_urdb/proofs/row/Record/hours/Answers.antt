use Rattle.std.proofs.Common.{Ok, Err, refl, inl, inr}
use Rattle.d_urdb.specs.Shown.{row_of}
use Rattle.d_urdb.specs.Numbers.{zero_hours}
use Rattle.d_urdb.proofs.CheckFacts.{refusal_same}
use Rattle.d_urdb.proofs.NumberReads.{filled}
use Rattle.d_urdb.proofs.HourFacts.{blank, zero_in_range, cell_read, grid_passes, grid_value, grid_refuses}
use Rattle.d_urdb.proofs.row.Record.hours.Goals as goal
use Rattle.d_urdb.specs.declared.cause.Cause.TheVariants as cause

pub returns-then-is_empty-clause-refusals : goal.returns-then-is_empty-clause-refusals
returns-then-is_empty-clause-refusals c reader are =
    let name = c.args.name.now in
    let cell = c.named_cell-cell.result.now in
    grid_passes (row_of c.args.self.now) name zero_hours reader
    (cell_read (row_of c.args.self.now) name cell (Ok zero_hours) c.named_cell-cell.ensures (inl (blank cell c.if-is_empty.ensures, refl)) reader are)

pub returns-then-is_empty-clause-value : goal.returns-then-is_empty-clause-value
returns-then-is_empty-clause-value c reader are =
    let name = c.args.name.now in
    let cell = c.named_cell-cell.result.now in
    grid_value (row_of c.args.self.now) name zero_hours reader
    (cell_read (row_of c.args.self.now) name cell (Ok zero_hours) c.named_cell-cell.ensures (inl (blank cell c.if-is_empty.ensures, refl)) reader are)

pub returns-then-is_empty-clause-range : goal.returns-then-is_empty-clause-range
returns-then-is_empty-clause-range c = zero_in_range

pub returns-in-Ok-clause-refusals : goal.returns-in-Ok-clause-refusals
returns-in-Ok-clause-refusals c reader are =
    let name = c.args.name.now in
    let cell = c.named_cell-cell.result.now in
    let rows = c.read_grid.new.grid in
    grid_passes (row_of c.args.self.now) name rows reader
    (cell_read (row_of c.args.self.now) name cell (Ok rows) c.named_cell-cell.ensures (inr c.in-Ok.ensures.value) reader are)

pub returns-in-Ok-clause-value : goal.returns-in-Ok-clause-value
returns-in-Ok-clause-value c reader are =
    let name = c.args.name.now in
    let cell = c.named_cell-cell.result.now in
    let rows = c.read_grid.new.grid in
    grid_value (row_of c.args.self.now) name rows reader
    (cell_read (row_of c.args.self.now) name cell (Ok rows) c.named_cell-cell.ensures (inr c.in-Ok.ensures.value) reader are)

pub returns-in-Err-clause-refusals : goal.returns-in-Err-clause-refusals
returns-in-Err-clause-refusals c reader are =
    let name = c.args.name.now in
    let cell = c.named_cell-cell.result.now in
    let place = c.in-Err.fault.place in
    grid_refuses (row_of c.args.self.now) name place c.refusal.result reader
    (cell_read (row_of c.args.self.now) name cell (Err place) c.named_cell-cell.ensures (filled cell c.if-is_empty.ensures, c.in-Err.ensures.fault) reader are)
    (refusal_same _ cause.Grid _ _ place place c.refusal.result c.refusal.ensures c.position-column.ensures.value refl)

use Rattle.std.proofs.Common.{◌≡◌, option_map, length, rules, arith}
use Rattle.d_columns.specs.Tiers.{data_row}
use Rattle.d_columns.specs.Past.{PartCell, IsFirstPast}
use Rattle.d_columns.proofs.PastFacts.{first_more, first_of_all}
use Rattle.d_columns.proofs.past.past_last_column.Goals as goal

pub loop-column-preserved : goal.loop-column-preserved
loop-column-preserved c =
    rw c.sooner-first.ensures
    (first_more (data_row c.args.table.now c.args.row) c.args.structure c.args.period c.loop-column.column c.loop-column.first c.in_ok-cell.cell
    c.loop-column.invariant c.in_ok-cell.ensures)

pub returns : goal.returns
returns c =
    let row = data_row c.args.table.now c.args.row in
    let column_is : c.map.result ≡ option_map (λ (cell : PartCell). cell.column) c.loop-column.first = search rules in
    let count : c.loop-column.column ≡ length row.header = omega arith in
    let all : IsFirstPast row c.args.structure c.args.period (length row.header) c.loop-column.first = rw count at c.loop-column.invariant in
    rw column_is (first_of_all row c.args.structure c.args.period c.loop-column.first all)

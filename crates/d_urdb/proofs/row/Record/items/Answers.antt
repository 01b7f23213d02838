use Rattle.std.proofs.Common.{Ok, Err, refl, ap, ◌∙◌}
use Rattle.d_urdb.specs.Shown.{row_of}
use Rattle.d_columns.specs.Tiers.{named_cell}
use Rattle.d_table.specs.Table.{column_of}
use Rattle.d_urdb.proofs.CheckFacts.{refusal_same}
use Rattle.d_urdb.proofs.MonthFacts.{not_listed, listed_is, spans_read, unlisted_passes, listed_passes, listed_refuses, listed_items}
use Rattle.d_urdb.proofs.row.Record.items.Goals as goal
use Rattle.d_urdb.specs.declared.cause.Cause.TheVariants as cause

pub returns-then-is_empty-clause-refusals : goal.returns-then-is_empty-clause-refusals
returns-then-is_empty-clause-refusals c reader are =
    let row = row_of c.args.self.now in
    let here = c.named_cell-cell.ensures ∙ ap (named_cell row) c.list_name-name.ensures.value in
    unlisted_passes reader row c.args.list (not_listed row c.args.list c.named_cell-cell.result.now here c.if-is_empty.ensures)

pub returns-in-Ok-clause-refusals : goal.returns-in-Ok-clause-refusals
returns-in-Ok-clause-refusals c reader are =
    let row = row_of c.args.self.now in
    let cell = c.named_cell-cell.result.now in
    let here = c.named_cell-cell.ensures ∙ ap (named_cell row) c.list_name-name.ensures.value in
    listed_passes reader row c.args.list c.split_list.new.spans (listed_is row c.args.list cell here c.if-is_empty.ensures)
    (spans_read row c.args.list cell (Ok c.split_list.new.spans) here c.in-Ok.ensures.value reader are)

pub returns-in-Ok-clause-items : goal.returns-in-Ok-clause-items
returns-in-Ok-clause-items c =
    let row = row_of c.args.self.now in
    let here = c.named_cell-cell.ensures ∙ ap (named_cell row) c.list_name-name.ensures.value in
    record {
      list_is = refl;
      spans_are = listed_items row c.args.list c.named_cell-cell.result.now c.split_list.new.spans here c.if-is_empty.ensures
          c.in-Ok.ensures.value c.in-Ok.ensures.within c.in-Ok.ensures.ends;
    }

pub returns-in-Err-clause-refusals : goal.returns-in-Err-clause-refusals
returns-in-Err-clause-refusals c reader are =
    let row = row_of c.args.self.now in
    let cell = c.named_cell-cell.result.now in
    let place = c.in-Err.fault.place in
    let here = c.named_cell-cell.ensures ∙ ap (named_cell row) c.list_name-name.ensures.value in
    listed_refuses reader row c.args.list place c.refusal.result (listed_is row c.args.list cell here c.if-is_empty.ensures)
    (spans_read row c.args.list cell (Err place) here c.in-Err.ensures.fault reader are)
    (refusal_same _ cause.Grid _ _ place place c.refusal.result c.refusal.ensures
    (c.position-column.ensures.value ∙ ap (λ name. column_of name row.header) c.list_name-name.ensures.value) refl)

use Rattle.std.proofs.Common.{◌++◌, ◌∙◌, List, ℕ, ap, codes}
use Rattle.std.specs.Fmt.{decimal}
use Rattle.d_table.specs.Table.{row_at, cell_in}
use Rattle.d_report.specs.Shown.{behind_blank}
use Rattle.d_urdb.specs.RefusalNames.{refusal_name}
use Rattle.d_run.specs.RecordText.{column_text}
use Rattle.d_run.proofs.LineFacts.{record_parts}
use Rattle.d_run.proofs.record_line.record_line.Goals as goal

pub returns : goal.returns
returns c =
    let refused = c.args.refused in
    let added : List ℕ → List ℕ → List ℕ = λ old text. old ++ text in
    record_parts 32 10 c.new-text.result.items c.extend_from_slice.new.self.items c.put_column.new.text.items c.extend_from_slice-2.new.self.items
    c.put_cell.new.text.items c.push.new.self.items (codes "refused record ") (decimal refused.number) (refusal_name refused.number)
    (column_text (row_at c.args.table.now 0) refused.column) (decimal refused.detail) (behind_blank (cell_in (row_at c.args.table.now 1) refused.column))
    c.new-text.ensures.items
    (c.in_ok-extend_from_slice.ensures.items ∙ ap (added c.new-text.result.items) (c.as_bytes.ensures.value ∙ c.as_str.ensures.value ∙ c.in_ok-front.ensures))
    c.in_ok-put_column.ensures
    (c.in_ok-extend_from_slice-2.ensures.items ∙ ap (added c.put_column.new.text.items) (c.as_bytes-2.ensures.value ∙ c.as_str-2.ensures.value ∙ c.in_ok-detail.ensures))
    c.in_ok-put_cell.ensures c.in_ok-push.ensures.items

-- The line that says why a record is refused. Its form, and the numbers and names of the refusals, are our own.
use Rattle.std.specs.Prelude.{ℕ, nat_lt, List, ◌∷◌, ◌++◌, length, codes, if◌then◌else◌}
use Rattle.std.specs.Fmt.{decimal}
use Rattle.d_table.specs.Table.{row_at, cell_in}
use Rattle.d_urdb.specs.RefusalNames.{refusal_name}
use Rattle.d_urdb.specs.declared.fault.Refused.{Refused}
use Rattle.d_report.specs.Lines.{line}
use Rattle.d_report.specs.Shown.{shown, behind_blank}
use Rattle.d_urdb.specs.Record.{hourly_refusal}

-- the name of a column as it is shown; `none` where there is no such column
abbrev pub column_text : List (List ℕ) → ℕ → List ℕ
column_text header column = if nat_lt column (length header) then shown (cell_in header column) else codes "none"

-- the line of a record's refusal: its number and name, its column, its detail, and the cell of the first data row where that isn't empty
abbrev pub record_text : List (List (List ℕ)) → Refused → List ℕ
record_text rows fault = line (codes "refused record " ++ (decimal fault.number ++ 32 ∷ (refusal_name fault.number
    ++ 32 ∷ (column_text (row_at rows 0) fault.column ++ 32 ∷ (decimal fault.detail ++ behind_blank (cell_in (row_at rows 1) fault.column))))))

-- the line of a record whose energy is settled hour by hour, where there isn't a reading an hour
abbrev pub hourly_text : List (List (List ℕ)) → List ℕ
hourly_text rows = record_text rows (hourly_refusal rows)

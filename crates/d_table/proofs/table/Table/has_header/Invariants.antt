use Rattle.std.proofs.Common.{◌≡◌, ℕ, ◌<◌, map, get_or, []}
use Rattle.std.specs.Str.{str_to_ascii_lowercase}
use Rattle.d_table.specs.Table.{row_at, cell_in}
use Rattle.d_table.proofs.table.Table.has_header.Given as goal

abbrev pub invariant-loop-column : goal.invariant-loop-column
invariant-loop-column l = (k : ℕ) → k < l.column → str_to_ascii_lowercase (cell_in (row_at l.self 0) k) ≡ get_or (map (λ name. name.now) l.names) k []

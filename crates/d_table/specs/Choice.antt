-- Which data rows are kept.
use Rattle.std.specs.Prelude.{ℕ, ◌-◌, Bool, true, false, ◌&&◌, nat_lt, if◌then◌else◌, List, [], ◌∷◌, ◌++◌, length, take, filter, bytes_eq}
use Rattle.d_table.specs.declared.choice.Choice.{Choice}
use Rattle.d_table.specs.declared.choice.Choice.TheVariants.{Every, Where, Nothing}
use Rattle.d_table.specs.Table.{cell_in}

-- the rows that are kept of these
abbrev pub kept_of : Choice → List (List (List ℕ)) → List (List (List ℕ))
kept_of Every rows = rows
kept_of (Where column value) rows = take 2 (filter (λ row. bytes_eq (cell_in row column) value.now) rows)
kept_of Nothing rows = []

-- whether a row is kept behind so many others
abbrev pub is_kept : Choice → ℕ → List (List ℕ) → Bool
is_kept Every kept row = true
is_kept (Where column value) kept row = nat_lt kept 2 && bytes_eq (cell_in row column) value.now
is_kept Nothing kept row = false

-- the rows of a table, the header first, with one more where it is kept
abbrev pub with_kept : Choice → List (List (List ℕ)) → List (List ℕ) → List (List (List ℕ))
with_kept choice rows row = if is_kept choice (length rows - 1) row then rows ++ row ∷ [] else rows

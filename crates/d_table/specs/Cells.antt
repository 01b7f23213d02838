-- The cells of a record that the csv reader gave.
use Rattle.std.specs.Prelude.{ℕ, List, map}
use Rattle.csv.specs.Records.{Row, fields_of}
use Rattle.d_table.specs.Table.{trimmed}

-- the fields of a record, each without the spaces and tabs at its ends
abbrev pub cells_of : Row → List (List ℕ)
cells_of kept = map trimmed (fields_of kept)

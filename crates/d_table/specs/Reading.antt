-- The rows that a csv reader over bytes in memory has still to give.
use Rattle.std.specs.Prelude.{◌≡◌, ℕ, ◌+◌, Bool, true, false, List, [], length, map, Some}
use Rattle.std.specs.Borrow.{Bor}
use Rattle.std.specs.Option.{option_map_or}
use Rattle.csv.specs.Reading.{Ready, default_config, reader_config, reader_state, reader_trim, records_from, source_of}
use Rattle.csv.specs.declared.reader.Reader.{Reader}
use Rattle.csv.specs.declared.reader.Trim.TheVariants as trim
use Rattle.csv.specs.declared.parser.State.{State}
use Rattle.csv.specs.declared.parser.State.TheVariants as st
use Rattle.d_table.specs.Table.{trimmed}

-- a state between two records
abbrev pub is_between : State → Bool
is_between st.StartRecord = true
is_between st.AfterCr = true
is_between s = false

-- the reader stands between two records of a text, and reads with its default settings and no header
pub record IsReading (reader : Reader (Bor (List ℕ))) : Type 0 where
  pub ready : Ready reader
  pub config : reader_config reader ≡ default_config
  pub trim : reader_trim reader ≡ trim.None
  pub between : is_between (reader_state reader) ≡ true
  pub known : (text : List ℕ) × (source_of (λ (s : Bor (List ℕ)). Some s.now) reader ≡ Some text)

-- the rows of cells that it has still to give
abbrev pub rows_left : Reader (Bor (List ℕ)) → List (List (List ℕ))
rows_left reader = option_map_or (λ text. map (map trimmed) (records_from default_config (length text + 1) (reader_state reader) text)) (source_of (λ (s : Bor (List ℕ)). Some s.now) reader) []

-- A file as a table of cells, as the csv reader's contract has it.
use Rattle.std.specs.Prelude.{◌≡◌, ◌≢◌, ℕ, ◌+◌, ◌-◌, ◌<◌, ◌≤◌, Bool, false, ◌||◌, ◌==◌, List, [], ◌∷◌, length, map, take, drop, filter, position, bytes_eq, Option, None, Some, All, slice_index, slice_index_or}
use Rattle.std.specs.Str.{str_to_ascii_lowercase}
use Rattle.std.specs.List.{prefix_len, suffix_len}
use Rattle.csv.specs.Reading.{records, default_config, strip_bom}

-- the records of a file: one byte order mark of UTF-8 at its front is taken off, and the csv reader, with its default settings,
-- no header and rows of any length, reads what is left (by its contract it takes one such mark off too)
abbrev pub records_of : List ℕ → List (List (List ℕ))
records_of bytes = records default_config (strip_bom (strip_bom bytes))

-- the bytes begin with the byte order mark of UTF-8
pub record HasMark (bytes : List ℕ) : Type 0 where
  pub long : 3 ≤ length bytes
  pub first : slice_index bytes 0 ≡ 0xEF
  pub second : slice_index bytes 1 ≡ 0xBB
  pub third : slice_index bytes 2 ≡ 0xBF

-- a space or a tab
abbrev pub is_blank : ℕ → Bool
is_blank byte = (byte == 32) || (byte == 9)

-- a text without the bytes of a kind at its front
abbrev pub without_front : (ℕ → Bool) → List ℕ → List ℕ
without_front test text = drop (prefix_len test text) text

-- a text without the bytes of a kind at its end
abbrev pub without_back : (ℕ → Bool) → List ℕ → List ℕ
without_back test text = take (length text - suffix_len test text) text

-- a cell: a field without the spaces and tabs at its ends
unfoldable pub trimmed : List ℕ → List ℕ
trimmed field = without_back is_blank (without_front is_blank field)

-- a file's rows of cells; the first row is the header, and the others are its data rows
abbrev pub rows_of : List ℕ → List (List (List ℕ))
rows_of bytes = map (map trimmed) (records_of bytes)

-- the cells of a row; no cell where there is no such row
abbrev pub row_at : List (List (List ℕ)) → ℕ → List (List ℕ)
row_at rows row = slice_index_or rows row []

-- a cell of a row; no bytes where there is no such cell
abbrev pub cell_in : List (List ℕ) → ℕ → List ℕ
cell_in row column = slice_index_or row column []

-- each row has as many cells as the first
abbrev pub IsRectangular : List (List (List ℕ)) → Type 0
IsRectangular rows = All (λ row. length row ≡ length (row_at rows 0)) rows

-- this data row, counted from 0, is the first that has another number of cells than the header
pub record IsFirstOdd (rows : List (List (List ℕ))) (row : ℕ) : Type 0 where
  -- it is there
  pub there : row + 1 < length rows
  -- it has another number of cells than the header
  pub odd : length (row_at rows (row + 1)) ≢ length (row_at rows 0)
  -- each data row before it has as many as the header
  pub before : (k : ℕ) → k < row → length (row_at rows (k + 1)) ≡ length (row_at rows 0)

-- the first column of that name, ASCII case ignored; the name is in small letters
abbrev pub column_of : List ℕ → List (List ℕ) → Option ℕ
column_of name header = position (λ cell. bytes_eq name (str_to_ascii_lowercase cell)) header

-- the header is exactly these names, ASCII case ignored; the names are in small letters
abbrev pub IsHeader : List (List ℕ) → List (List ℕ) → Type 0
IsHeader names header = map str_to_ascii_lowercase header ≡ names

-- whether a row's cell in this column is the value; no row has it where there is no column
abbrev pub has_value : Option ℕ → List ℕ → List (List ℕ) → Bool
has_value None value row = false
has_value (Some column) value row = bytes_eq (cell_in row column) value

-- the header and, in order, the data rows whose cell in the first column of that name is the value
abbrev pub rows_where : List ℕ → List ℕ → List (List (List ℕ)) → List (List (List ℕ))
rows_where name value [] = []
rows_where name value (header ∷ data_rows) = header ∷ filter (has_value (column_of name header) value) data_rows

-- the header and the first two of those rows: who looks for the one row of a value has none, one, or by the second row too many, and a
-- third says no more
abbrev pub kept_rows : List ℕ → List ℕ → List (List (List ℕ)) → List (List (List ℕ))
kept_rows name value [] = []
kept_rows name value (header ∷ data_rows) = header ∷ take 2 (filter (has_value (column_of name header) value) data_rows)

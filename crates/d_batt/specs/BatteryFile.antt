-- A battery file: why it is refused, and the battery that it is. Its form, its ranges, what stands for an absent number, and the order of
-- the refusals are our own.
use Rattle.std.specs.Prelude.{◌≡◌, ℕ, zero, suc, ◌-◌, ◌^◌, Bool, ◌||◌, ◌==◌, nat_lt, nat_le, ℤ, pos, unsigned_abs, List, [], ◌∷◌, ◌++◌, length, map, bytes_eq, codes, Option, None, Some, is_some, unwrap_or, Result, Ok, Err, if◌then◌else◌}
use Rattle.std.specs.Option.{is_none}
use Rattle.std.specs.Cmp.Lexicographic.{pointwise}
use Rattle.std.specs.Str.{str_to_ascii_lowercase}
use Rattle.d_text.specs.declared.decimal.DecimalFault.{DecimalFault}
use Rattle.d_list.specs.Firsts.{first_of, each, when}
use Rattle.d_table.specs.Table.{row_at, cell_in}
use Rattle.d_batt.specs.declared.fault.BatteryFault.{BatteryFault}
use Rattle.d_batt.specs.declared.fault.BatteryFault.TheVariants.{Shape, Unknown, Missing, Twice, Number, Range, NoModes, TooMany}
use Rattle.d_batt.specs.declared.mode.Mode.{Mode}
use Rattle.d_batt.specs.declared.setting.Setting.{Setting}
use Rattle.d_batt.specs.declared.setting.Setting.TheVariants.{Capacity, Floor, Start, End, MaxImport, MaxExport}
use Rattle.d_batt.specs.declared.kind.Kind.{Kind}
use Rattle.d_batt.specs.declared.kind.Kind.TheVariants.{Sets, HasMode}
use Rattle.d_batt.specs.Kinds.{setting_name, setting_within, kind_of, cells_at, first_named}
use Rattle.d_batt.specs.Numbers.{Reader, IsReader, level_number, is_unread, change_within, grid_within, level_within}
use Rattle.d_batt.specs.Storage.{Storage}

-- what a row is
abbrev pub kind_in : List (List ℕ) → Option Kind
kind_in cells = kind_of (cell_in cells 0) (cell_in cells 1)

-- ---- a row that sets a number

-- its number, where it is in the setting's range
abbrev pub set_value : Reader → List (List ℕ) → Setting → Option ℤ
set_value reader cells setting = setting_within setting (reader (cell_in cells 2))

-- why it is refused, in order
abbrev pub setting_refusals : Reader → List (List (List ℕ)) → ℕ → Setting → List (Option BatteryFault)
setting_refusals reader rows row setting =
    when (is_unread (reader (cell_in (cells_at rows row) 2))) (Number row)
    ∷ when (is_none (set_value reader (cells_at rows row) setting)) (Range row)
    ∷ []

-- ---- a row that has a mode

-- the mode of these numbers, where its levels are in order
abbrev pub mode_at : (name : List ℕ) (change grid : Option ℤ) (low high : Option ℕ) → Option Mode
mode_at name (Some change) (Some grid) (Some low) (Some high) =
    if nat_lt high low then None else Some (record { name = name; change = change; grid = grid; low = low; high = high })
mode_at name change grid low high = None

-- the mode of a name and numbers, where all are in range: it changes the battery by at most 255 levels, it adds at most 10^9 Wh in size to
-- the net reading, and it begins from a level to a level that isn't below it, both from 0 to 255
abbrev pub mode_of : (name : List ℕ) (change grid low high : Result ℤ DecimalFault) → Option Mode
mode_of name change grid low high =
    mode_at name (change_within change) (grid_within grid) (level_within low) (level_within high)

-- the mode of a row; low and high are 0 and 255 where their cells are empty
abbrev pub mode_in : Reader → List (List ℕ) → Option Mode
mode_in reader cells =
    mode_of (cell_in cells 1) (reader (cell_in cells 2)) (reader (cell_in cells 3)) (level_number reader 0 (cell_in cells 4))
    (level_number reader 255 (cell_in cells 5))

-- whether one of these numbers can't be read
abbrev pub are_unread : (change grid low high : Result ℤ DecimalFault) → Bool
are_unread change grid low high = is_unread change || is_unread grid || is_unread low || is_unread high

-- whether one of a row's numbers can't be read
abbrev pub has_unread : Reader → List (List ℕ) → Bool
has_unread reader cells =
    are_unread (reader (cell_in cells 2)) (reader (cell_in cells 3)) (level_number reader 0 (cell_in cells 4))
    (level_number reader 255 (cell_in cells 5))

-- a list of one mode, or of none
abbrev pub listed : Option Mode → List Mode
listed None = []
listed (Some mode) = mode ∷ []

-- the mode of a row, if it has one
abbrev pub mode_by : Reader → List (List ℕ) → Option Kind → List Mode
mode_by reader cells None = []
mode_by reader cells (Some (Sets setting)) = []
mode_by reader cells (Some HasMode) = listed (mode_in reader cells)

-- the modes of the first so many data rows, in order
unfoldable pub modes : Reader → List (List (List ℕ)) → ℕ → List Mode
modes reader rows zero = []
modes reader rows (suc row) = modes reader rows row ++ mode_by reader (cells_at rows row) (kind_in (cells_at rows row))

-- those of the first rows, and that of the row behind them
abbrev pub with_mode : Reader → List (List (List ℕ)) → ℕ → List Mode
with_mode reader rows row = modes reader rows row ++ listed (mode_in reader (cells_at rows row))

-- why the numbers of a mode are refused, in order
abbrev pub number_refusals : Reader → List (List (List ℕ)) → ℕ → List (Option BatteryFault)
number_refusals reader rows row =
    when (has_unread reader (cells_at rows row)) (Number row)
    ∷ when (is_none (mode_in reader (cells_at rows row))) (Range row)
    ∷ []

-- and why the mode is, where there are 64 before it
abbrev pub mode_refusals : Reader → List (List (List ℕ)) → ℕ → List (Option BatteryFault)
mode_refusals reader rows row = number_refusals reader rows row ++ when (nat_le 64 (length (modes reader rows row))) (TooMany row) ∷ []

-- ---- the rows

-- a row before this one has the same kind and name
abbrev pub twice_refusal : List (List (List ℕ)) → ℕ → Option BatteryFault
twice_refusal rows row = when (is_some (first_named rows row (cell_in (cells_at rows row) 0) (cell_in (cells_at rows row) 1))) (Twice row)

-- why a row is refused, by what it is
abbrev pub kind_refusals : Reader → List (List (List ℕ)) → ℕ → Option Kind → List (Option BatteryFault)
kind_refusals reader rows row None = Some (Unknown row) ∷ []
kind_refusals reader rows row (Some (Sets setting)) = twice_refusal rows row ∷ setting_refusals reader rows row setting
kind_refusals reader rows row (Some HasMode) = twice_refusal rows row ∷ mode_refusals reader rows row

-- why a row is refused, in order
unfoldable pub row_refusals : Reader → List (List (List ℕ)) → ℕ → List (Option BatteryFault)
row_refusals reader rows row = kind_refusals reader rows row (kind_in (cells_at rows row))

-- the number of data rows
abbrev pub count_of : List (List (List ℕ)) → ℕ
count_of rows = length rows - 1

-- why rows are refused, in order
unfoldable pub rows_refusals : Reader → List (List (List ℕ)) → List (Option BatteryFault)
rows_refusals reader rows = each (count_of rows) (row_refusals reader rows)

-- ---- levels and limits

-- the first row that sets it
abbrev pub first_row : List (List (List ℕ)) → Setting → Option ℕ
first_row rows setting = first_named rows (count_of rows) (codes "set") (setting_name setting)

-- the number that a row sets
abbrev pub value_at : Reader → List (List (List ℕ)) → Setting → Option ℕ → Option ℤ
value_at reader rows setting None = None
value_at reader rows setting (Some row) = set_value reader (cells_at rows row) setting

-- the number of a setting, where a row sets it
unfoldable pub value_of : Reader → List (List (List ℕ)) → Setting → Option ℤ
value_of reader rows setting = value_at reader rows setting (first_row rows setting)

-- a level, or the one that stands for it where no row sets it
abbrev pub level : Reader → List (List (List ℕ)) → Setting → ℕ → ℕ
level reader rows setting absent = unsigned_abs (unwrap_or (value_of reader rows setting) (pos absent))

-- a limit of the grid in Wh; 10^10 where no row sets it
abbrev pub grid_limit : Reader → List (List (List ℕ)) → Setting → ℤ
grid_limit reader rows setting = unwrap_or (value_of reader rows setting) (pos (10 ^ 10))

-- the highest level; 0 where no row sets it, which is refused
abbrev pub capacity_of : Reader → List (List (List ℕ)) → ℕ
capacity_of reader rows = level reader rows Capacity 0

-- the lowest level; 0 where no row sets it
abbrev pub floor_of : Reader → List (List (List ℕ)) → ℕ
floor_of reader rows = level reader rows Floor 0

-- the level at the month's start; the floor where no row sets it
abbrev pub start_of : Reader → List (List (List ℕ)) → ℕ
start_of reader rows = level reader rows Start (floor_of reader rows)

-- the least level at the month's end; the start where no row sets it
abbrev pub end_of : Reader → List (List (List ℕ)) → ℕ
end_of reader rows = level reader rows End (start_of reader rows)

-- the row of a setting that is told; one that no row sets is never out of its range
abbrev pub row_of : List (List (List ℕ)) → Setting → ℕ
row_of rows setting = unwrap_or (first_row rows setting) 0

-- whether a level is below the floor or above the capacity
abbrev pub is_outside : ℕ → ℕ → ℕ → Bool
is_outside level floor capacity = nat_lt level floor || nat_lt capacity level

-- why levels are refused, in order
unfoldable pub level_refusals : Reader → List (List (List ℕ)) → List (Option BatteryFault)
level_refusals reader rows =
    when (is_none (value_of reader rows Capacity)) Missing
    ∷ when (nat_lt (capacity_of reader rows) (floor_of reader rows)) (Range (row_of rows Floor))
    ∷ when (is_outside (start_of reader rows) (floor_of reader rows) (capacity_of reader rows)) (Range (row_of rows Start))
    ∷ when (nat_lt (capacity_of reader rows) (end_of reader rows)) (Range (row_of rows End))
    ∷ []

-- ---- the battery

-- all refusals below the header, in order
unfoldable pub battery_refusals : Reader → List (List (List ℕ)) → List (Option BatteryFault)
battery_refusals reader rows =
    rows_refusals reader rows ++ (level_refusals reader rows ++ when (length (modes reader rows (count_of rows)) == 0) NoModes ∷ [])

-- the battery of rows that aren't refused
unfoldable pub battery_of : Reader → List (List (List ℕ)) → Storage
battery_of reader rows = record {
  floor = floor_of reader rows;
  capacity = capacity_of reader rows;
  start = start_of reader rows;
  end = end_of reader rows;
  max_import = grid_limit reader rows MaxImport;
  max_export = grid_limit reader rows MaxExport;
  modes = modes reader rows (count_of rows);
}

-- the names in the header
abbrev pub battery_header : List (List ℕ)
battery_header = codes "kind" ∷ codes "name" ∷ codes "change" ∷ codes "grid_wh" ∷ codes "low" ∷ codes "high" ∷ []

-- whether the header is exactly these names, ASCII case ignored
abbrev pub has_header : List (List (List ℕ)) → Bool
has_header rows = pointwise bytes_eq (map str_to_ascii_lowercase (row_at rows 0)) battery_header

-- a refusal where one comes, else the battery
abbrev pub refused_or : Option BatteryFault → Storage → Result Storage BatteryFault
refused_or None storage = Ok storage
refused_or (Some fault) storage = Err fault

-- the battery in rows under a header, or its refusal
unfoldable pub battery_outcome : Reader → List (List (List ℕ)) → Result Storage BatteryFault
battery_outcome reader rows =
    if has_header rows then refused_or (first_of (battery_refusals reader rows)) (battery_of reader rows) else Err Shape

-- this is the outcome of a battery file with these rows
abbrev pub IsOutcome : List (List (List ℕ)) → Result Storage BatteryFault → Type 0
IsOutcome rows outcome = (reader : Reader) × IsReader reader × (outcome ≡ battery_outcome reader rows)

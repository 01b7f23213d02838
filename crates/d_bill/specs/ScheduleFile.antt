-- A file of a schedule: a header and a row for each interval, with the interval's start and the name of its mode. Its form is our own.
-- A table's rows are all as long as its header, so each has these two cells.
use Rattle.std.specs.Prelude.{◌≡◌, ◌≢◌, ℕ, ◌+◌, ◌<◌, List, [], ◌∷◌, Some, length, codes, slice_get, slice_index}
use Rattle.d_table.specs.Table.{row_at, cell_in, IsHeader}
use Rattle.d_batt.specs.declared.mode.Mode.{Mode}
use Rattle.d_bill.specs.declared.schedule.ScheduleFault.{ScheduleFault}
use Rattle.d_bill.specs.declared.schedule.ScheduleFault.TheVariants as fault
use Rattle.d_bill.specs.Inputs.{Inputs}
use Rattle.d_cal.specs.Starts.{IsStart, start_of}

-- the header is exactly start and mode, ASCII case ignored
abbrev pub HasHeader : List (List (List ℕ)) → Type 0
HasHeader rows = IsHeader (codes "start" ∷ codes "mode" ∷ []) (row_at rows 0)

-- data row t, counted from 0, has the start of interval t
abbrev pub HasStart : Inputs → List (List (List ℕ)) → ℕ → Type 0
HasStart i rows t = IsStart (cell_in (row_at rows (t + 1)) 0) (start_of i.year i.number i.minutes t)

-- the mode of this number has this name, byte by byte
pub record IsModeNamed (modes : List Mode) (name : List ℕ) (number : ℕ) : Type 0 where
  pub mode : Mode
  pub there : slice_get modes number ≡ Some mode
  pub named : mode.name ≡ name

-- data row t has the name of the mode of this number
abbrev pub NamesMode : Inputs → List (List (List ℕ)) → ℕ → ℕ → Type 0
NamesMode i rows t number = IsModeNamed i.storage.modes (cell_in (row_at rows (t + 1)) 1) number

-- the rows are the header and one row for each interval, in order, with its start and the name of the schedule's mode
pub record IsScheduleFile (i : Inputs) (rows : List (List (List ℕ))) (s : List ℕ) : Type 0 where
  pub header : HasHeader rows
  pub count : length rows ≡ length i.net + 1
  pub long : length s ≡ length i.net
  pub starts : (t : ℕ) → t < length i.net → HasStart i rows t
  pub modes : (t : ℕ) → t < length i.net → NamesMode i rows t (slice_index s t)

-- data row t has the start of interval t, and the name of a mode
pub record IsRow (i : Inputs) (rows : List (List (List ℕ))) (t : ℕ) : Type 0 where
  pub start : HasStart i rows t
  pub number : ℕ
  pub mode : NamesMode i rows t number

-- there is the header and a row for each interval, and each data row before this one is right
pub record IsRightTo (i : Inputs) (rows : List (List (List ℕ))) (row : ℕ) : Type 0 where
  pub header : HasHeader rows
  pub count : length rows ≡ length i.net + 1
  pub before : (t : ℕ) → t < row → IsRow i rows t

-- the header is right, and the number of data rows isn't the number of intervals
pub record IsMiscounted (i : Inputs) (rows : List (List (List ℕ))) (have need : ℕ) : Type 0 where
  pub header : HasHeader rows
  pub have_is : length rows ≡ have + 1
  pub need_is : need ≡ length i.net
  pub other : have ≢ need

-- this is the first data row that is wrong, and what is wrong is its start
pub record IsWrongStart (i : Inputs) (rows : List (List (List ℕ))) (row : ℕ) : Type 0 where
  pub right : IsRightTo i rows row
  pub there : row < length i.net
  pub wrong : ¬ HasStart i rows row

-- this is the first data row that is wrong, and what is wrong is its mode: none has that name
pub record IsWrongMode (i : Inputs) (rows : List (List (List ℕ))) (row : ℕ) : Type 0 where
  pub right : IsRightTo i rows row
  pub there : row < length i.net
  pub start : HasStart i rows row
  pub wrong : (number : ℕ) → ¬ NamesMode i rows row number

-- the first check that fails: of the header, of the number of rows, and then of each row's start and mode
abbrev pub IsScheduleFault : Inputs → List (List (List ℕ)) → ScheduleFault → Type 0
IsScheduleFault i rows fault.Shape = ¬ HasHeader rows
IsScheduleFault i rows (fault.Count have need) = IsMiscounted i rows have need
IsScheduleFault i rows (fault.Start row) = IsWrongStart i rows row
IsScheduleFault i rows (fault.Mode row) = IsWrongMode i rows row

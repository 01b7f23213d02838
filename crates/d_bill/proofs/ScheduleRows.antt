-- The rows of a schedule's file, one after the other.
use Rattle.std.proofs.Common.{◌≡◌, ℕ, ◌+◌, ◌*◌, ◌<◌, arith, List, length, Option, None, Some, true, false, true≢false, IfNone, IfSome, IsSome, refl, sym, below_more}
use Rattle.std.specs.Option.{is_some}
use Rattle.std.specs.Prelude.{slice_index}
use Rattle.d_num.specs.Amount.{IsReadingLength}
use Rattle.d_table.specs.Table.{row_at, cell_in}
use Rattle.d_bill.specs.Inputs.{Inputs}
use Rattle.d_bill.specs.ScheduleFile.{HasStart, IsModeNamed, NamesMode, IsRightTo, IsScheduleFile}

-- an interval of the month begins within it
pub begins_within : (t count minutes whole : ℕ) → t < count → count * minutes ≡ whole → IsReadingLength minutes → t * minutes < whole
begins_within t count minutes whole inside e length = grind arith

-- one right row more
pub right_more : (i : Inputs) (rows : List (List (List ℕ))) (t number : ℕ) → IsRightTo i rows t → HasStart i rows t → NamesMode i rows t number → IsRightTo i rows (t + 1)
right_more i rows t number right start mode = record {
  header = right.header;
  count = right.count;
  before = below_more _ _ right.before (record { start = start; number = number; mode = mode });
}

-- where no mode was found, none has the name
pub no_mode : (i : Inputs) (rows : List (List (List ℕ))) (t : ℕ) (name : List ℕ) (found : Option ℕ) → name ≡ cell_in (row_at rows (t + 1)) 1 → is_some found ≡ false →
    IfNone found ((number : ℕ) → IsModeNamed i.storage.modes name number → ⊥) → (number : ℕ) → NamesMode i rows t number → ⊥
no_mode i rows t name None is none other number named = other number (rw is named)
no_mode i rows t name (Some found) is none other number named = absurd (true≢false none)

-- where one was found, the row is right
pub mode_found : (i : Inputs) (rows : List (List (List ℕ))) (t : ℕ) (name : List ℕ) (found : Option ℕ) → name ≡ cell_in (row_at rows (t + 1)) 1 → is_some found ≡ true →
    IfSome found (IsModeNamed i.storage.modes name) → IsRightTo i rows t → HasStart i rows t → IsRightTo i rows (t + 1)
mode_found i rows t name None is some named right start = absurd (true≢false (sym some))
mode_found i rows t name (Some number) is some named right start = right_more i rows t number right start (rw is at named)

-- a right row has a mode to find
pub must_find : (i : Inputs) (rows : List (List (List ℕ))) (row t : ℕ) (name : List ℕ) (found : Option ℕ) → name ≡ cell_in (row_at rows (t + 1)) 1 → IsRightTo i rows row → t < row →
    IfNone found ((number : ℕ) → IsModeNamed i.storage.modes name number → ⊥) → IsSome found
must_find i rows row t name None is right within none = let right_row = right.before t within in absurd (none right_row.number (rw is right_row.mode))
must_find i rows row t name (Some number) is right within none = refl

-- the rows of a schedule that names their modes
pub rows_read : (i : Inputs) (rows : List (List (List ℕ))) (s : List ℕ) → IsRightTo i rows (length i.net) → length s ≡ length i.net →
    ((t : ℕ) → t < length i.net → NamesMode i rows t (slice_index s t)) → IsScheduleFile i rows s
rows_read i rows s right long modes = record {
  header = right.header;
  count = right.count;
  long = long;
  starts = λ t within. (right.before t within).start;
  modes = modes;
}

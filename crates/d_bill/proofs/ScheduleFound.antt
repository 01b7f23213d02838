-- A file is a schedule or refused.
use Rattle.std.proofs.Common.{◌≡◌, ◌⊎◌, inl, inr, ℕ, zero, suc, ◌+◌, ◌-◌, ◌<◌, ◌≤◌, pos, List, [], ◌∷◌, ◌++◌, length, drop, map, codes, Option, None, Some, refl, sym, ap, ◌∙◌, arith, length-append}
use Rattle.std.specs.Prelude.{slice_get, slice_index}
use Rattle.std.specs.Str.{str_to_ascii_lowercase}
use Rattle.std.proofs.lemmas.List.{drop_at, get_or_append_left, get_or_at}
use Rattle.std.proofs.lemmas.Bool.{cases_order}
use Rattle.std.proofs.lemmas.Option.{same_Some, none-some}
use Rattle.d_table.specs.Table.{row_at, cell_in}
use Rattle.d_batt.specs.declared.mode.Mode.{Mode}
use Rattle.d_bill.specs.declared.schedule.ScheduleFault.{ScheduleFault}
use Rattle.d_bill.specs.declared.schedule.ScheduleFault.TheVariants as fault
use Rattle.d_bill.specs.Inputs.{Inputs}
use Rattle.d_cal.specs.Calendar.{IsMonth, IsDayOf}
use Rattle.d_cal.specs.Starts.{IsMoment, IsInCalendar, IsStart, date_text, time_text, start_of}
use Rattle.d_cal.specs.declared.start.Start.{Start}
use Rattle.jiff_core.specs.Calendar.{days_in_month}
use Rattle.d_bill.specs.ScheduleFile.{HasHeader, HasStart, IsModeNamed, NamesMode, IsRow, IsRightTo, IsScheduleFault}
use Rattle.d_bill.specs.ScheduleLaw.{HasOneSchedule, HasOneFault, IsReadOnce}
use Rattle.d_bill.proofs.Deciding.{Decided, holds, fails, both, one_of, restated, same_number, same_text, same_cells, is_below, at_most, integer_at_most}
use Rattle.d_bill.proofs.ModeNames.{nowhere}
use Rattle.d_bill.proofs.ScheduleRows.{right_more, rows_read}
use Rattle.d_bill.proofs.ScheduleLaws.{schedule_same, schedule_right, fault_same}

-- what a moment says of these parts
abbrev HasParts : List ℕ → List ℕ → List ℕ → ℕ → List ℕ → Type 0
HasParts cell date time between seconds =
    (cell ≡ date ++ between ∷ (time ++ seconds)) × ((between ≡ 84) ⊎ (between ≡ 32)) × ((seconds ≡ []) ⊎ (seconds ≡ codes ":00"))

-- the parts of a moment are what stands at their places
moment_parts : (cell date time : List ℕ) (m : IsMoment cell date time) →
    HasParts cell date time (slice_index (drop (length date) cell) 0) (drop (length time) (drop 1 (drop (length date) cell)))
moment_parts cell date time m = parts (slice_index (drop (length date) cell) 0) (drop (length time) (drop 1 (drop (length date) cell)))
    (ap (λ (t : List ℕ). slice_index t 0) behind) (ap (λ (t : List ℕ). drop (length time) (drop 1 t)) behind ∙ drop_at time m.seconds (length time) refl)
  where
    behind : drop (length date) cell ≡ m.between ∷ (time ++ m.seconds)
    behind = ap (drop (length date)) m.form ∙ drop_at date (m.between ∷ (time ++ m.seconds)) (length date) refl

    parts : (b : ℕ) (s : List ℕ) → b ≡ m.between → s ≡ m.seconds → HasParts cell date time b s
    parts b s same_b same_s = rw (same_b, same_s) (m.form, m.between_is, m.seconds_are)

-- a cell is this moment
moment_decided : (cell date time : List ℕ) → Decided (IsMoment cell date time)
moment_decided cell date time = of (slice_index (drop (length date) cell) 0) (drop (length time) (drop 1 (drop (length date) cell))) (moment_parts cell date time)
  where
    of : (b : ℕ) (s : List ℕ) → (IsMoment cell date time → HasParts cell date time b s) → Decided (IsMoment cell date time)
    of b s there = restated (λ h. record { between = b; seconds = s; form = h.0; between_is = h.1.0; seconds_are = h.1.1 })
        (λ m. let p = there m in (p.0, (p.1, p.2)))
        (both (same_text cell (date ++ b ∷ (time ++ s))) (both (one_of (same_number b 84) (same_number b 32)) (one_of (same_text s []) (same_text s (codes ":00")))))

-- a start is one of the calendar
calendar_decided : (start : Start) → Decided (IsInCalendar start)
calendar_decided start = restated (λ h. record { month = h.0; day = h.1.0; minute = h.1.1 }) (λ s. (s.month, (s.day, s.minute)))
    (both month (both day (is_below start.minute 1440)))
  where
    month : Decided (IsMonth start.year start.month)
    month = restated (λ h. record { after_year_0 = h.0; before_year_10000 = h.1.0; from_january = h.1.1.0; to_december = h.1.1.1 })
        (λ m. (m.after_year_0, (m.before_year_10000, (m.from_january, m.to_december))))
        (both (integer_at_most (pos 1) start.year) (both (integer_at_most start.year (pos 9999)) (both (at_most 1 start.month) (at_most start.month 12))))

    day : Decided (IsDayOf start.year start.month start.day)
    day = restated (λ h. record { from_first = h.0; to_last = h.1 }) (λ d. (d.from_first, d.to_last))
        (both (at_most 1 start.day) (at_most start.day (days_in_month start.year start.month)))

-- a cell is this start
start_decided : (cell : List ℕ) (start : Start) → Decided (IsStart cell start)
start_decided cell start = restated (λ h. record { in_calendar = h.0; moment = h.1 }) (λ s. (s.in_calendar, s.moment))
    (both (calendar_decided start) (moment_decided cell (date_text start.year start.month start.day) (time_text start.minute)))

-- the mode of this number has the name
mode_decided : (modes : List Mode) (name : List ℕ) (number : ℕ) → Decided (IsModeNamed modes name number)
mode_decided modes name number = at_place (slice_get modes number) refl
  where
    at_place : (found : Option Mode) → slice_get modes number ≡ found → Decided (IsModeNamed modes name number)
    at_place None none = fails (λ m. none-some m.mode (sym none ∙ m.there))
    at_place (Some mode) there = restated (λ named. record { mode = mode; there = there; named = named })
        (λ m. ap (λ (x : Mode). x.name) (same_Some mode m.mode (sym there ∙ m.there)) ∙ m.named) (same_text mode.name name)

-- a mode below this number has the name, or none has
modes_below : (modes : List Mode) (name : List ℕ) (count : ℕ) → ((number : ℕ) × IsModeNamed modes name number) ⊎ ((k : ℕ) → k < count → IsModeNamed modes name k → ⊥)
modes_below modes name zero = inr (λ k below. absurd (omega arith))
modes_below modes name (suc count) = more (modes_below modes name count) (mode_decided modes name count)
  where
    last : ((k : ℕ) → k < count → IsModeNamed modes name k → ⊥) → (IsModeNamed modes name count → ⊥) → (k : ℕ) → k < suc count → Decided (k ≡ count) → IsModeNamed modes name k → ⊥
    last below here k within (holds same) named = here (rw same at named)
    last below here k within (fails other) named = below k (omega arith) named

    more : ((number : ℕ) × IsModeNamed modes name number) ⊎ ((k : ℕ) → k < count → IsModeNamed modes name k → ⊥) → Decided (IsModeNamed modes name count) →
        ((number : ℕ) × IsModeNamed modes name number) ⊎ ((k : ℕ) → k < suc count → IsModeNamed modes name k → ⊥)
    more (inl found) here = inl found
    more (inr below) (holds named) = inl (count, named)
    more (inr below) (fails here) = inr (λ k within. last below here k within (same_number k count))

-- a mode has the name, or none has
mode_found : (modes : List Mode) (name : List ℕ) → ((number : ℕ) × IsModeNamed modes name number) ⊎ ((number : ℕ) → IsModeNamed modes name number → ⊥)
mode_found modes name = behind_last (modes_below modes name (length modes))
  where
    behind_last : ((number : ℕ) × IsModeNamed modes name number) ⊎ ((k : ℕ) → k < length modes → IsModeNamed modes name k → ⊥) →
        ((number : ℕ) × IsModeNamed modes name number) ⊎ ((number : ℕ) → IsModeNamed modes name number → ⊥)
    behind_last (inl found) = inl found
    behind_last (inr none) = inr (nowhere modes name (length modes) (omega arith) none)

-- the rows are right up to one, or something is wrong with the file
data Checked (i : Inputs) (rows : List (List (List ℕ))) (row : ℕ) : Type 0 where
  all_right : IsRightTo i rows row → Checked i rows row
  one_wrong : (cause : ScheduleFault) → IsScheduleFault i rows cause → Checked i rows row

-- one row more
row_checked : (i : Inputs) (rows : List (List (List ℕ))) (row : ℕ) → row < length i.net → IsRightTo i rows row → Checked i rows (row + 1)
row_checked i rows row there before =
    by_start (start_decided (cell_in (row_at rows (row + 1)) 0) (start_of i.year i.number i.minutes row))
  where
    by_mode : HasStart i rows row → ((number : ℕ) × NamesMode i rows row number) ⊎ ((number : ℕ) → NamesMode i rows row number → ⊥) → Checked i rows (row + 1)
    by_mode start (inl found) = all_right (right_more i rows row found.0 before start found.1)
    by_mode start (inr none) = one_wrong (fault.Mode row) (record { right = before; there = there; start = start; wrong = none })

    by_start : Decided (HasStart i rows row) → Checked i rows (row + 1)
    by_start (holds start) = by_mode start (mode_found i.storage.modes (cell_in (row_at rows (row + 1)) 1))
    by_start (fails other) = one_wrong (fault.Start row) (record { right = before; there = there; wrong = other })

-- all rows
rows_checked : (i : Inputs) (rows : List (List (List ℕ))) → IsRightTo i rows 0 → (row : ℕ) → row ≤ length i.net → Checked i rows row
rows_checked i rows form zero few = all_right form
rows_checked i rows form (suc row) few = more (rows_checked i rows form row (omega arith))
  where
    more : Checked i rows row → Checked i rows (suc row)
    more (all_right before) = let e : suc row ≡ row + 1 = omega arith in rw e (row_checked i rows row (omega arith) before)
    more (one_wrong cause is) = one_wrong cause is

-- a header stands in a row
some_row : (rows : List (List (List ℕ))) → HasHeader rows → length rows ≡ length rows - 1 + 1
some_row [] header = let e : ◌≡◌ {A = ℕ} 0 2 = ap length header in absurd (omega (arith, e))
some_row (row ∷ rest) header = omega arith

-- header, number of rows, and rows
file_checked : (i : Inputs) (rows : List (List (List ℕ))) → Checked i rows (length i.net)
file_checked i rows = by_header (same_cells (map str_to_ascii_lowercase (row_at rows 0)) (codes "start" ∷ codes "mode" ∷ []))
  where
    by_count : HasHeader rows → Decided (length rows ≡ length i.net + 1) → Checked i rows (length i.net)
    by_count header (holds count) = rows_checked i rows (record { header = header; count = count; before = λ t below. absurd (omega arith) }) (length i.net) (omega arith)
    by_count header (fails other) = let e = some_row rows header in
        one_wrong (fault.Count (length rows - 1) (length i.net)) (record { header = header; have_is = e; need_is = refl; other = λ same. other (e ∙ ap (λ (n : ℕ). n + 1) same) })

    by_header : Decided (HasHeader rows) → Checked i rows (length i.net)
    by_header (holds header) = by_count header (same_number (length rows) (length i.net + 1))
    by_header (fails other) = one_wrong fault.Shape other

-- the modes that right rows name, as a list
modes_listed : (i : Inputs) (rows : List (List (List ℕ))) (count : ℕ) → ((t : ℕ) → t < count → IsRow i rows t) →
    (s : List ℕ) × ((length s ≡ count) × ((t : ℕ) → t < count → NamesMode i rows t (slice_index s t)))
modes_listed i rows zero right = ([], (refl, λ t below. absurd (omega arith)))
modes_listed i rows (suc count) right = more (modes_listed i rows count (λ t below. right t (omega arith))) (right count (omega arith))
  where
    place : (s : List ℕ) (last : ℕ) → length s ≡ count → ((t : ℕ) → t < count → NamesMode i rows t (slice_index s t)) → NamesMode i rows count last →
        (t : ℕ) → (t ≡ count) ⊎ ((t < count) ⊎ (count < t)) → t < suc count → NamesMode i rows t (slice_index (s ++ last ∷ []) t)
    place s last long named here t (inl same) within = rw (same, get_or_at s last [] 0 count long) here
    place s last long named here t (inr (inl below)) within = rw (get_or_append_left s (last ∷ []) 0 t (omega (arith, long))) (named t below)
    place s last long named here t (inr (inr above)) within = absurd (omega arith)

    places : (s : List ℕ) (last : ℕ) → length s ≡ count → ((t : ℕ) → t < count → NamesMode i rows t (slice_index s t)) → NamesMode i rows count last →
        (t : ℕ) → t < suc count → NamesMode i rows t (slice_index (s ++ last ∷ []) t)
    places s last long named here t within = place s last long named here t (cases_order t count) within

    more : (s : List ℕ) × ((length s ≡ count) × ((t : ℕ) → t < count → NamesMode i rows t (slice_index s t))) → IsRow i rows count →
        (s : List ℕ) × ((length s ≡ suc count) × ((t : ℕ) → t < suc count → NamesMode i rows t (slice_index s t)))
    more so_far last = (so_far.0 ++ last.number ∷ [], (let e = length-append so_far.0 (last.number ∷ []) in omega (arith, e, so_far.1.0), places so_far.0 last.number so_far.1.0 so_far.1.1 last.mode))

-- a file is one schedule, or refused for one cause
pub read_once : IsReadOnce
read_once i rows storage = by_check (file_checked i rows)
  where
    by_check : Checked i rows (length i.net) → HasOneSchedule i rows ⊎ HasOneFault i rows
    by_check (all_right rows_right) =
        let listed = modes_listed i rows (length i.net) rows_right.before in
        let file = rows_read i rows listed.0 rows_right listed.1.0 listed.1.1 in
        inl (record {
          schedule = listed.0;
          is = file;
          only = λ other also. schedule_same i rows other listed.0 storage also file;
          right = λ cause wrong. schedule_right i rows listed.0 cause file wrong;
        })
    by_check (one_wrong cause is) = inr (record {
      fault = cause;
      is = is;
      only = λ other also. fault_same i rows other cause also is;
      none = λ s file. schedule_right i rows s cause file is;
    })

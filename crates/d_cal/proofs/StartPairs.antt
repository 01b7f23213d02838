-- The numbers of a start, two digits at each of their places.
use Rattle.std.proofs.Common.{◌≡◌, ℕ, zero, suc, ◌+◌, ◌/◌, ◌%◌, ◌<◌, unsigned_abs, List, [], ◌∷◌, ◌++◌, length, slice_index_or, take, drop, None, Some, refl, ap, ◌∙◌, arith}
use Rattle.d_cal.specs.declared.start.Start.{Start}
use Rattle.d_cal.specs.Starts.{IsStart, IsInCalendar, date_text, time_text}
use Rattle.d_cal.specs.StartCells.{HasPair}
use Rattle.jiff_core.proofs.CalendarLemmas.{days_in_month_bounds}
use Rattle.d_cal.proofs.Digits.{two_digits, four_digits, year_size}

-- two bytes at a place
pub two_at : (cell : List ℕ) (place a b : ℕ) → take 2 (drop place cell) ≡ a ∷ b ∷ [] →
    (place + 1 < length cell) × (slice_index_or cell place 0 ≡ a) × (slice_index_or cell (place + 1) 0 ≡ b)
two_at [] zero a b e = absurd (let n : [] ≡ a ∷ b ∷ [] = e in cc)
two_at [] (suc place) a b e = absurd (let n : [] ≡ a ∷ b ∷ [] = e in cc)
two_at (x ∷ []) zero a b e = absurd (let n : x ∷ [] ≡ a ∷ b ∷ [] = e in cc)
two_at (x ∷ y ∷ rest) zero a b e = let n : x ∷ y ∷ [] ≡ a ∷ b ∷ [] = e in (omega arith, cc, cc)
two_at (x ∷ rest) (suc place) a b e =
    let below = two_at rest place a b e in
    let next : suc place + 1 ≡ suc (place + 1) = omega arith in
    (omega (arith, below.0), below.1, rw next below.2)

-- none isn't some
pub none_some : {T : Type 0} (value : T) → None ≡ Some value → ⊥
none_some value e = cc

-- some is one
pub some_once : {T : Type 0} (a b : T) → Some a ≡ Some b → a ≡ b
some_once a b e = cc

-- the sizes of a start's numbers
pub record Sizes (start : Start) : Type 0 where
  pub year : unsigned_abs start.year < 10000
  pub month : start.month < 100
  pub day : start.day < 100

pub sizes : (start : Start) → IsInCalendar start → Sizes start
sizes start is =
    let days = days_in_month_bounds start.year start.month in
    record {
      year = year_size start.year is.month.after_year_0 is.month.before_year_10000;
      month = omega (arith, is.month.to_december);
      day = omega (arith, is.day.to_last, days.0, days.1);
    }

-- the bytes of its text, with another byte in the middle and more behind them
abbrev pub bytes_of : Start → ℕ → List ℕ → List ℕ
bytes_of start between seconds =
    (48 + unsigned_abs start.year / 100 / 10) ∷ (48 + unsigned_abs start.year / 100 % 10) ∷ (48 + unsigned_abs start.year % 100 / 10)
    ∷ (48 + unsigned_abs start.year % 100 % 10) ∷ 45 ∷ (48 + start.month / 10) ∷ (48 + start.month % 10) ∷ 45 ∷ (48 + start.day / 10)
    ∷ (48 + start.day % 10) ∷ between ∷ (48 + start.minute / 60 / 10) ∷ (48 + start.minute / 60 % 10) ∷ 58 ∷ (48 + start.minute % 60 / 10)
    ∷ (48 + start.minute % 60 % 10) ∷ seconds

pub has_bytes : (start : Start) (between : ℕ) (seconds : List ℕ) → IsInCalendar start →
    date_text start.year start.month start.day ++ between ∷ (time_text start.minute ++ seconds) ≡ bytes_of start between seconds
has_bytes start between seconds is =
    let y = unsigned_abs start.year in
    let size = sizes start is in
    rw (
      four_digits y size.year,
      two_digits (y / 100) (omega (arith, size.year)),
      two_digits (y % 100) (omega arith),
      two_digits start.month size.month,
      two_digits start.day size.day,
      two_digits (start.minute / 60) (omega (arith, is.minute)),
      two_digits (start.minute % 60) (omega arith),
    ) refl

-- where they stand in a cell
pub record Pairs (cell : List ℕ) (start : Start) : Type 0 where
  pub front : HasPair cell 0 (unsigned_abs start.year / 100)
  pub back : HasPair cell 2 (unsigned_abs start.year % 100)
  pub month : HasPair cell 5 start.month
  pub day : HasPair cell 8 start.day
  pub hour : HasPair cell 11 (start.minute / 60)
  pub minute : HasPair cell 14 (start.minute % 60)

pub pairs : (cell : List ℕ) (start : Start) → IsStart cell start → Pairs cell start
pairs cell start is =
    let bytes = is.moment.form ∙ has_bytes start is.moment.between is.moment.seconds is.in_calendar in
    record {
      front = ap (λ (t : List ℕ). take 2 (drop 0 t)) bytes;
      back = ap (λ (t : List ℕ). take 2 (drop 2 t)) bytes;
      month = ap (λ (t : List ℕ). take 2 (drop 5 t)) bytes;
      day = ap (λ (t : List ℕ). take 2 (drop 8 t)) bytes;
      hour = ap (λ (t : List ℕ). take 2 (drop 11 t)) bytes;
      minute = ap (λ (t : List ℕ). take 2 (drop 14 t)) bytes;
    }

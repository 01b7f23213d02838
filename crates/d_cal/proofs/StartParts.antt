-- The date and the time of a start's sixteen bytes.
use Rattle.std.proofs.Common.{◌≡◌, ℕ, ◌/◌, ◌%◌, ◌<◌, ℤ, unsigned_abs, List, [], ◌∷◌, ◌++◌, length, length-append, append_assoc, append-nil, take, drop, refl, sym, ap, ◌∙◌, arith}
use Rattle.std.proofs.lemmas.List.{take_at, drop_at}
use Rattle.d_cal.specs.Calendar.{IsMonth}
use Rattle.d_cal.specs.Starts.{date_text, time_text}
use Rattle.d_cal.proofs.Digits.{two_digits, four_digits, year_size}

-- a date is ten bytes long
pub date_length : (year : ℤ) (number day : ℕ) → IsMonth year number → day < 100 → length (date_text year number day) ≡ 10
date_length year number day month small =
    let y = unsigned_abs year in
    let size : y < 10000 = year_size year month.after_year_0 month.before_year_10000 in
    let few : number < 100 = omega (arith, month.to_december) in
    rw (four_digits y size, two_digits (y / 100) (omega arith), two_digits (y % 100) (omega arith), two_digits number few, two_digits day small) refl

-- a time is five bytes long
pub time_length : (minute : ℕ) → minute < 1440 → length (time_text minute) ≡ 5
time_length minute small = rw (two_digits (minute / 60) (omega arith), two_digits (minute % 60) (omega arith)) refl

-- the date stands before the byte in the middle
pub date_part : (start date time : List ℕ) (between : ℕ) → start ≡ date ++ between ∷ time → length date ≡ 10 → take 10 start ≡ date
date_part start date time between is ten = ap (take 10) is ∙ take_at date (between ∷ time) 10 ten

-- and the time behind it
pub time_part : (start date time : List ℕ) (between : ℕ) → start ≡ date ++ between ∷ time → length date ≡ 10 → length time ≡ 5 → take 5 (drop 11 start) ≡ time
time_part start date time between is ten five =
    let eleven : length (date ++ between ∷ []) ≡ 11 = simp length-append (omega arith) in
    let whole : start ≡ (date ++ between ∷ []) ++ time = is ∙ sym (append_assoc date (between ∷ []) time) in
    let behind : drop 11 start ≡ time = ap (drop 11) whole ∙ drop_at (date ++ between ∷ []) time 11 eleven in
    let all : take 5 (time ++ []) ≡ time = take_at time [] 5 five in
    ap (take 5) (behind ∙ sym (append-nil time)) ∙ all

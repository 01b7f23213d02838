-- A cell is one start at most.
use Rattle.std.proofs.Common.{◌≡◌, ◌↔◌, true, false, IsSome, IfSome, MatchOption, Option, None, Some, ℕ, ◌+◌, ◌/◌, ◌%◌, ℤ, pos, negsuc, unsigned_abs, List, [], ◌∷◌, refl, sym, ap, ◌∙◌, arith}
use Rattle.std.proofs.lemmas.Int.{ints}
use Rattle.d_cal.specs.declared.start.Start.{Start}
use Rattle.d_cal.specs.Calendar.{IsMonth}
use Rattle.d_cal.specs.Starts.{IsStart}
use Rattle.d_cal.specs.StartCells.{HasPair, HasMonth}
use Rattle.d_cal.specs.declared.month.Month.{Month}
use Rattle.d_cal.proofs.StartPairs.{pairs}

-- two digits are one number's
pub pair_once : (cell : List ℕ) (place a b : ℕ) → HasPair cell place a → HasPair cell place b → a ≡ b
pair_once cell place a b one other =
    let both : (48 + a / 10) ∷ (48 + a % 10) ∷ [] ≡ (48 + b / 10) ∷ (48 + b % 10) ∷ [] = sym one ∙ other in
    let tens : 48 + a / 10 ≡ 48 + b / 10 = cc in
    let ones : 48 + a % 10 ≡ 48 + b % 10 = cc in
    omega (arith, tens, ones)

-- a year of the calendar is its size
pub year_of_size : (year : ℤ) (number : ℕ) → IsMonth year number → pos (unsigned_abs year) ≡ year
year_of_size (pos n) number month = refl
year_of_size (negsuc n) number month = absurd (let low = month.after_year_0 in omega (arith, ints, low))

-- two cells of one text are one start
pub start_once : (cell : List ℕ) (start other : Start) → IsStart cell start → IsStart cell other → start ≡ other
start_once cell start other one two =
    let p = pairs cell start one in
    let q = pairs cell other two in
    let front = pair_once cell 0 _ _ p.front q.front in
    let back = pair_once cell 2 _ _ p.back q.back in
    let hour = pair_once cell 11 _ _ p.hour q.hour in
    let minute = pair_once cell 14 _ _ p.minute q.minute in
    let size : unsigned_abs start.year ≡ unsigned_abs other.year = omega (arith, front, back) in
    let year : start.year ≡ other.year =
    sym (year_of_size start.year start.month one.in_calendar.month) ∙ ap pos size ∙ year_of_size other.year other.month two.in_calendar.month in
    same start.year other.year start.month other.month start.day other.day start.minute other.minute year (pair_once cell 5 _ _ p.month q.month)
    (pair_once cell 8 _ _ p.day q.day) (omega (arith, hour, minute))
  where
    made : ℤ → ℕ → ℕ → ℕ → Start
    made y m d t = record { year = y; month = m; day = d; minute = t }

    same : (y y' : ℤ) (m m' d d' t t' : ℕ) → y ≡ y' → m ≡ m' → d ≡ d' → t ≡ t' → made y m d t ≡ made y' m' d' t'
    same y y' m m' d d' t t' a b c e = rw (a, b, c, e) refl

-- the month of a year and a number that are a start's
pub month_found : (start : Start) (found : Option Month) (year : ℤ) (number : ℕ) → IsMonth start.year start.month → year ≡ start.year → number ≡ start.month
    → IsSome found ↔ IsMonth year number → IfSome found (λ m. m.year ≡ year) → IfSome found (λ m. m.number ≡ number) → MatchOption found ⊥ (HasMonth start)
month_found start None year number month same_year same_number range y n =
    let bad : false ≡ true = range.1 (rw (same_year, same_number) month) in
    cc
month_found start (Some m) year number month same_year same_number range y n = record { year = y ∙ same_year; number = n ∙ same_number }

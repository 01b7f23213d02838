-- Whether a cell is a start is decided: its digits tell the only one that it can be.
use Rattle.std.proofs.Common.{◌≡◌, ◌∙◌, ◌⊎◌, inl, inr, ◌+◌, ◌-◌, ◌*◌, ◌/◌, ◌%◌, ◌<◌, ◌≤◌, ℕ, ℤ, pos, unsigned_abs, true, false, List, [], ◌∷◌, ◌++◌, slice_index_or, bytes_eq, codes, refl, sym, ap, subst, arith}
use Rattle.std.proofs.lemmas.Bool.{cases_Bool, cases_lt}
use Rattle.std.proofs.lemmas.Int.{ints}
use Rattle.std.proofs.lemmas.Slice.Eq.{bytes_eq-Decides}
use Rattle.jiff_core.specs.Calendar.{days_in_month}
use Rattle.d_cal.specs.declared.start.Start.{Start}
use Rattle.d_cal.specs.Starts.{IsInCalendar, IsMoment, IsStart, date_text, time_text}
use Rattle.d_cal.specs.StartCells.{HasPair}
use Rattle.d_cal.proofs.StartLaws.{year_of_size}
use Rattle.d_cal.proofs.StartPairs.{two_at, pairs}

-- a fact holds or not
abbrev IsDecided : Type 0 → Type 0
IsDecided A = A ⊎ (A → ⊥)

both : {A B : Type 0} → IsDecided A → IsDecided B → IsDecided (A × B)
both (inl a) (inl b) = inl (a, b)
both (inl a) (inr none) = inr (λ p. none p.1)
both (inr none) (inl b) = inr (λ p. none p.0)
both (inr none) (inr no_other) = inr (λ p. none p.0)

same_fact : {A B : Type 0} → (A → B) → (B → A) → IsDecided A → IsDecided B
same_fact there back (inl a) = inl (there a)
same_fact there back (inr none) = inr (λ b. none (back b))

below_decided : (a b : ℕ) → IsDecided (a < b)
below_decided a b = by_order (cases_lt a b)
  where
    by_order : (a < b) ⊎ (b ≤ a) → IsDecided (a < b)
    by_order (inl less) = inl less
    by_order (inr more) = inr (λ less. omega (arith, less, more))

text_decided : (a b : List ℕ) → IsDecided (a ≡ b)
text_decided a b = by_test (cases_Bool (bytes_eq a b))
  where
    by_test : (bytes_eq a b ≡ true) ⊎ (bytes_eq a b ≡ false) → IsDecided (a ≡ b)
    by_test (inl holds) = inl ((bytes_eq-Decides a b).0 holds)
    by_test (inr other) = inr (λ same. let bad : true ≡ false = sym ((bytes_eq-Decides a b).1 same) ∙ other in cc)

-- a moment of a date and a time is one of four texts
module _ (cell date time : List ℕ) where
  text : ℕ → List ℕ → List ℕ
  text between seconds = date ++ between ∷ (time ++ seconds)

  moment_decided : IsDecided (IsMoment cell date time)
  unfolding text
  moment_decided = by_texts (text_decided cell (text 84 [])) (text_decided cell (text 84 (codes ":00"))) (text_decided cell (text 32 [])) (text_decided cell (text 32 (codes ":00")))
    where
      none : (cell ≡ text 84 [] → ⊥) → (cell ≡ text 84 (codes ":00") → ⊥) → (cell ≡ text 32 [] → ⊥) → (cell ≡ text 32 (codes ":00") → ⊥)
          → (between : ℕ) (seconds : List ℕ) → cell ≡ text between seconds → (between ≡ 84) ⊎ (between ≡ 32) → (seconds ≡ []) ⊎ (seconds ≡ codes ":00") → ⊥
      none a b c d between seconds form (inl t) (inl s) = a (form ∙ ap (λ b. text b seconds) t ∙ ap (text 84) s)
      none a b c d between seconds form (inl t) (inr s) = b (form ∙ ap (λ b. text b seconds) t ∙ ap (text 84) s)
      none a b c d between seconds form (inr t) (inl s) = c (form ∙ ap (λ b. text b seconds) t ∙ ap (text 32) s)
      none a b c d between seconds form (inr t) (inr s) = d (form ∙ ap (λ b. text b seconds) t ∙ ap (text 32) s)

      by_texts : IsDecided (cell ≡ text 84 []) → IsDecided (cell ≡ text 84 (codes ":00")) → IsDecided (cell ≡ text 32 []) → IsDecided (cell ≡ text 32 (codes ":00"))
          → IsDecided (IsMoment cell date time)
      by_texts (inl is) b c d = inl (record { between = 84; seconds = []; form = is; between_is = inl refl; seconds_are = inl refl })
      by_texts (inr a) (inl is) c d = inl (record { between = 84; seconds = codes ":00"; form = is; between_is = inl refl; seconds_are = inr refl })
      by_texts (inr a) (inr b) (inl is) d = inl (record { between = 32; seconds = []; form = is; between_is = inr refl; seconds_are = inl refl })
      by_texts (inr a) (inr b) (inr c) (inl is) = inl (record { between = 32; seconds = codes ":00"; form = is; between_is = inr refl; seconds_are = inr refl })
      by_texts (inr a) (inr b) (inr c) (inr d) = inr (λ m. none a b c d m.between m.seconds m.form m.between_is m.seconds_are)

-- a start by its numbers
made : ℕ → ℕ → ℕ → ℕ → Start
made year month day minute = record { year = pos year; month = month; day = day; minute = minute }

calendar_decided : (year month day minute : ℕ) → IsDecided (IsInCalendar (made year month day minute))
unfolding made
calendar_decided year month day minute = same_fact there back (
    both (both (below_decided 0 year) (below_decided year 10000))
    (both (both (below_decided 0 month) (below_decided month 13))
    (both (both (below_decided 0 day) (below_decided day (days_in_month (pos year) month + 1))) (below_decided minute 1440))))
  where
    Bounds : Type 0
    Bounds = ((0 < year) × (year < 10000)) × (((0 < month) × (month < 13)) × (((0 < day) × (day < days_in_month (pos year) month + 1)) × (minute < 1440)))

    there : Bounds → IsInCalendar (made year month day minute)
    there b = record {
      month = record {
        after_year_0 = let low = b.0.0 in omega (arith, ints, low);
        before_year_10000 = let high = b.0.1 in omega (arith, ints, high);
        from_january = omega (arith, b.1.0.0);
        to_december = omega (arith, b.1.0.1);
      };
      day = record { from_first = omega (arith, b.1.1.0.0); to_last = omega (arith, b.1.1.0.1) };
      minute = b.1.1.1;
    }

    back : IsInCalendar (made year month day minute) → Bounds
    back is = (
      (let low = is.month.after_year_0 in omega (arith, ints, low), let high = is.month.before_year_10000 in omega (arith, ints, high)),
      (
        (omega (arith, is.month.from_january), omega (arith, is.month.to_december)),
        ((omega (arith, is.day.from_first), omega (arith, is.day.to_last)), is.minute),
      ),
    )

-- the number of the two digits at a place
number_at : List ℕ → ℕ → ℕ
number_at cell place = (slice_index_or cell place 0 - 48) * 10 + (slice_index_or cell (place + 1) 0 - 48)

pair_number : (cell : List ℕ) (place number : ℕ) → HasPair cell place number → number_at cell place ≡ number
unfolding number_at
pair_number cell place number has =
    let bytes = two_at cell place (48 + number / 10) (48 + number % 10) has in
    rw (bytes.1, bytes.2) (omega arith)

-- the only start that a cell can be
named : List ℕ → Start
named cell = made (number_at cell 0 * 100 + number_at cell 2) (number_at cell 5) (number_at cell 8) (number_at cell 11 * 60 + number_at cell 14)

only_named : (cell : List ℕ) (start : Start) → IsStart cell start → start ≡ named cell
unfolding named made
only_named cell start is =
    let has = pairs cell start is in
    let year : unsigned_abs start.year ≡ number_at cell 0 * 100 + number_at cell 2 =
    rw (pair_number cell 0 _ has.front, pair_number cell 2 _ has.back) (omega arith) in
    let minute : start.minute ≡ number_at cell 11 * 60 + number_at cell 14 =
    rw (pair_number cell 11 _ has.hour, pair_number cell 14 _ has.minute) (omega arith) in
    same start.year (pos (number_at cell 0 * 100 + number_at cell 2)) start.month (number_at cell 5) start.day (number_at cell 8) start.minute (number_at cell 11 * 60 + number_at cell 14)
    (sym (year_of_size start.year start.month is.in_calendar.month) ∙ ap pos year) (sym (pair_number cell 5 _ has.month)) (sym (pair_number cell 8 _ has.day)) minute
  where
    whole : ℤ → ℕ → ℕ → ℕ → Start
    whole y m d t = record { year = y; month = m; day = d; minute = t }

    same : (y y' : ℤ) (m m' d d' t t' : ℕ) → y ≡ y' → m ≡ m' → d ≡ d' → t ≡ t' → whole y m d t ≡ whole y' m' d' t'
    same y y' m m' d d' t t' a b c e = rw (a, b, c, e) refl

-- a cell is a start, or none
pub start_found : (cell : List ℕ) → ((start : Start) × IsStart cell start) ⊎ ((start : Start) → IsStart cell start → ⊥)
unfolding named
start_found cell = by_parts (both in_calendar (moment_decided cell (date_text found.year found.month found.day) (time_text found.minute)))
  where
    found : Start
    found = named cell

    in_calendar : IsDecided (IsInCalendar found)
    in_calendar =
        calendar_decided (number_at cell 0 * 100 + number_at cell 2) (number_at cell 5) (number_at cell 8) (number_at cell 11 * 60 + number_at cell 14)

    by_parts : IsDecided (IsInCalendar found × IsMoment cell (date_text found.year found.month found.day) (time_text found.minute))
        → ((start : Start) × IsStart cell start) ⊎ ((start : Start) → IsStart cell start → ⊥)
    by_parts (inl parts) = inl (found, record { in_calendar = parts.0; moment = parts.1 })
    by_parts (inr none) = inr (λ start is. let is_found = subst (IsStart cell) (only_named cell start is) is in none (is_found.in_calendar, is_found.moment))

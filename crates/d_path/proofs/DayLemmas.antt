-- Rows of least costs at day ends and on one day.
use Rattle.std.proofs.Common.{◌≡◌, ◌≢◌, ◌+◌, ◌-◌, ◌*◌, ◌≤◌, ◌<◌, ℕ, zero, suc, List, [], length, get_or, set, cond, eqb, ap, sym, subst, ◌∙◌, refl, arith, inl, inr, slice_index_or, suc-mul, mul-le-mul_right, true, false}
use Rattle.std.proofs.lemmas.Bool.Decides.{nat_tests}
use Rattle.std.proofs.lemmas.List.{get_or-set_same, get_or-set_other, length-set}
use Rattle.std.proofs.lemmas.List.Elements.{All-set}
use Rattle.d_num.specs.declared.pot.Pot.{Pot}
use Rattle.d_rows.specs.Blocks.{with_row}
use Rattle.d_rows.proofs.RowLaws.{with_row_is}
use Rattle.d_rows.specs.Days.{DayRows, day_row, with_day_row}
use Rattle.d_path.specs.Arcs.{Arcs, intervals_of}
use Rattle.d_path.specs.Cheapest.{HasCheapest, IsWide}
use Rattle.d_path.specs.Days.{per_day_of, FitsDays, WritesKept}
use Rattle.d_path.proofs.StepLemmas.{below?}

-- interval i of a day is one of the month
pub in_month : (a : Arcs) (r : DayRows) (day i : ℕ) → FitsDays a r → day + 1 < length r.kept → i ≤ length r.window → day * per_day_of r + i < intervals_of a
in_month a r day i fits lt le = go (length r.kept - 1) (length r.window + 1) day i fits.intervals (omega arith) (omega arith)
  where
    go : (days per day i : ℕ) → days * per ≡ intervals_of a → day < days → i < per → day * per + i < intervals_of a
    go days per day i e lt le =
        let m : suc day * per ≤ days * per = mul-le-mul_right per lt in
        omega (arith, suc-mul day per)

-- what a row of a day has to be
pub row_wide : (a : Arcs) (r : DayRows) (day i : ℕ) → FitsDays a r → day + 1 < length r.kept → i ≤ length r.window + 1 → a.floor + length (day_row r day i) ≡ a.capacity + 1
row_wide a r day zero fits lt le = fits.kept_wide day [] (omega arith)
row_wide a r day (suc i) fits lt le = go i (length r.window) (slice_index_or r.kept (day + 1) []) (slice_index_or r.window i [])
    (fits.kept_wide (day + 1) [] lt) (λ inside. fits.window_wide i [] inside) (omega arith)
  where
    go : (i n : ℕ) (x y : List Pot) → a.floor + length x ≡ a.capacity + 1 → (i < n → a.floor + length y ≡ a.capacity + 1) → i ≤ n → a.floor + length (cond (eqb i n) x y) ≡ a.capacity + 1
    go i n x y one other le = elim (below? i n) [
      | inl lt ↦ let no : eqb i n ≡ false = grind (arith, nat_tests) in rw no (other lt)
      | inr ge ↦ let yes : eqb i n ≡ true = grind (arith, nat_tests) in rw yes one
    ]

-- the window's rows from row i of the day on have the least costs, and the other rows are as they were, in number and width
pub record IsDayFrom (a : Arcs) (day i : ℕ) (old r : DayRows) : Type 0 where
  pub kept : r.kept ≡ old.kept
  pub long : length r.window ≡ length old.window
  pub wide : IsWide a.floor a.capacity r.window
  pub filled : (j : ℕ) → i ≤ j + 1 → j < length r.window → HasCheapest a (day * per_day_of r + (j + 1)) (slice_index_or r.window j [])

-- at first none of them
pub day_start : (a : Arcs) (day i : ℕ) (old : DayRows) → FitsDays a old → i ≡ length old.window + 1 → IsDayFrom a day i old old
day_start a day i old fits e = record { kept = refl; long = refl; wide = fits.window_wide; filled = λ j low high. absurd (omega arith) }

pub day_fits : (a : Arcs) (day i : ℕ) (old r : DayRows) → FitsDays a old → IsDayFrom a day i old r → FitsDays a r
day_fits a day i old r fits so = record {
  some_day = subst (λ (k : List (List Pot)). 1 < length k) (sym so.kept) fits.some_day;
  intervals = ap (λ (k : List (List Pot)). (length k - 1) * (length r.window + 1)) so.kept ∙ ap (λ (n : ℕ). (length old.kept - 1) * (n + 1)) so.long ∙ fits.intervals;
  kept_wide = subst (λ (k : List (List Pot)). IsWide a.floor a.capacity k) (sym so.kept) fits.kept_wide;
  window_wide = so.wide;
}

-- the row after row i of the day has the least costs at the interval after it
pub next_is : (a : Arcs) (r : DayRows) (day i : ℕ) → HasCheapest a ((day + 1) * per_day_of r) (slice_index_or r.kept (day + 1) []) → (i < length r.window → HasCheapest a (day * per_day_of r + (i + 1)) (slice_index_or r.window i []))
    → i ≤ length r.window → HasCheapest a (day * per_day_of r + i + 1) (day_row r day (suc i))
next_is a r day i ends inner le = go i (length r.window) (slice_index_or r.kept (day + 1) []) (slice_index_or r.window i []) ends inner le
  where
    go : (i n : ℕ) (x y : List Pot) → HasCheapest a ((day + 1) * (n + 1)) x → (i < n → HasCheapest a (day * (n + 1) + (i + 1)) y) → i ≤ n → HasCheapest a (day * (n + 1) + i + 1) (cond (eqb i n) x y)
    go i n x y one other le = elim (below? i n) [
      | inl lt ↦
          let no : eqb i n ≡ false = grind (arith, nat_tests) in
          let at : day * (n + 1) + (i + 1) ≡ day * (n + 1) + i + 1 = omega arith in
          rw no (subst (λ (t : ℕ). HasCheapest a t y) at (other lt))
      | inr ge ↦
          let yes : eqb i n ≡ true = grind (arith, nat_tests) in
          let same : i ≡ n = omega arith in
          let at : (day + 1) * (n + 1) ≡ day * (n + 1) + i + 1 = omega (arith, suc-mul day (n + 1)) in
          rw yes (subst (λ (t : ℕ). HasCheapest a t x) at one)
    ]

-- the same in the loop over a day
pub day_next : (a : Arcs) (day i at per : ℕ) (old r : DayRows) → IsDayFrom a day at old r → at ≡ i + 1 → HasCheapest a ((day + 1) * per_day_of old) (slice_index_or old.kept (day + 1) []) → i ≤ length old.window → per_day_of old ≡ per
    → HasCheapest a (day * per + i + 1) (day_row r day (i + 1))
day_next a day i at per old r so e ends le p =
    let long = so.long in
    let ends_now : HasCheapest a ((day + 1) * per_day_of r) (slice_index_or r.kept (day + 1) []) =
    subst (λ (k : List (List Pot)). HasCheapest a ((day + 1) * per_day_of r) (slice_index_or k (day + 1) [])) (sym so.kept)
    (subst (λ (n : ℕ). HasCheapest a ((day + 1) * (n + 1)) (slice_index_or old.kept (day + 1) [])) (sym long) ends) in
    let per_is : per_day_of r ≡ per = ap (λ (n : ℕ). n + 1) long ∙ p in
    let row_at : suc i ≡ i + 1 = omega arith in
    subst (λ (n : ℕ). HasCheapest a (day * n + i + 1) (day_row r day (i + 1))) per_is
    (subst (λ (n : ℕ). HasCheapest a (day * per_day_of r + i + 1) (day_row r day n)) row_at
    (next_is a r day i ends_now (λ inside. so.filled i (omega arith) inside) (omega arith)))

-- row i of a list is written; the rows from there on hold
row_set : (C : ℕ → List Pot → Type 0) (rows : List (List Pot)) (t i : ℕ) (row : List Pot) → t < length rows → t ≤ i → C t row → (suc t ≤ i → C i (get_or rows i [])) → C i (get_or (set rows t row) i [])
row_set C rows t i row lt low here later = elim (below? t i) [
  | inl after ↦
      let other : i ≢ t = omega arith in
      subst (λ (r : List Pot). C i r) (sym (get_or-set_other rows t i row [] other)) (later after)
  | inr ge ↦
      let same : t ≡ i = omega arith in
      subst (λ (j : ℕ). C j (get_or (set rows t row) j [])) same
      (subst (λ (r : List Pot). C t r) (sym (get_or-set_same rows t row [] lt)) here)
]

long_set : (rows : List (List Pot)) (t : ℕ) (row : List Pot) → length (set rows t row) ≡ length rows
long_set rows t row = simp length-set

-- one more row of the day
pub day_more : (a : Arcs) (day i at : ℕ) (old r : DayRows) (ws : List Pot) → IsDayFrom a day at old r → at ≡ i + 1 → 1 ≤ i → i ≤ length r.window → length ws ≡ length (day_row r day i) → a.floor + length (day_row r day i) ≡ a.capacity + 1
    → HasCheapest a (day * per_day_of r + i) ws → IsDayFrom a day i old (with_day_row r day i ws)
day_more a day zero at old r ws so e low high long wide cheap = absurd (omega arith)
day_more a day (suc k) at old r ws so e low high long wide cheap =
    let no : eqb k (length r.window) ≡ false = grind (arith, nat_tests) in
    let here : day_row r day (suc k) ≡ slice_index_or r.window k [] = rw no refl in
    let w : List (List Pot) = set r.window k ws in
    let is : with_row r.window k ws ≡ w = with_row_is r.window k ws (long ∙ ap length here) in
    let n : length w ≡ length r.window = long_set r.window k ws in
    let fit : a.floor + length ws ≡ a.capacity + 1 = ap (λ (m : ℕ). a.floor + m) long ∙ wide in
    subst (λ (x : List (List Pot)). IsDayFrom a day (suc k) old (record { kept = r.kept; window = x })) (sym is) (record {
      kept = so.kept;
      long = n ∙ so.long;
      wide = All-set (λ (x : List Pot). a.floor + length x ≡ a.capacity + 1) r.window k ws fit so.wide;
      filled = λ j le lt.
          subst (λ (m : ℕ). HasCheapest a (day * (m + 1) + (j + 1)) (get_or w j [])) (sym n)
          (row_set (λ m x. HasCheapest a (day * per_day_of r + (m + 1)) x) r.window k j ws (omega arith) (omega arith) (subst (λ (m : ℕ). HasCheapest a (day * per_day_of r + m) ws) (omega arith) cheap)
          (λ after. so.filled j (omega arith) (omega arith)));
    })

-- the kept rows from row day on have the least costs, and all rows are as they were in number and width
pub record AreKeptFrom (a : Arcs) (day : ℕ) (old r : DayRows) : Type 0 where
  pub days : length r.kept ≡ length old.kept
  pub long : length r.window ≡ length old.window
  pub fits : FitsDays a r
  pub filled : (d : ℕ) → day ≤ d → d < length r.kept → HasCheapest a (d * per_day_of r) (slice_index_or r.kept d [])

fits_set : (a : Arcs) (t d : ℕ) (old new : DayRows) → FitsDays a old → WritesKept a t d old new → FitsDays a new
fits_set a t d old new fits w =
    let n : length new.kept ≡ length old.kept = ap length w.kept ∙ long_set old.kept d w.row in
    record {
      some_day = subst (λ (k : ℕ). 1 < k) (sym n) fits.some_day;
      intervals = ap (λ (k : ℕ). (k - 1) * per_day_of new) n ∙ ap (λ (k : List (List Pot)). (length old.kept - 1) * (length k + 1)) w.window ∙ fits.intervals;
      kept_wide = subst (λ (k : List (List Pot)). IsWide a.floor a.capacity k) (sym w.kept) (All-set (λ (x : List Pot). a.floor + length x ≡ a.capacity + 1) old.kept d w.row w.wide fits.kept_wide);
      window_wide = subst (λ (k : List (List Pot)). IsWide a.floor a.capacity k) (sym w.window) fits.window_wide;
    }

-- one more kept row
pub kept_more : (a : Arcs) (d : ℕ) (first old new : DayRows) → AreKeptFrom a (d + 1) first old → d < length old.kept → WritesKept a (d * per_day_of old) d old new → AreKeptFrom a d first new
kept_more a d first old new so lt w =
    let n : length new.kept ≡ length old.kept = ap length w.kept ∙ long_set old.kept d w.row in
    let m : length new.window ≡ length old.window = ap length w.window in
    record {
      days = n ∙ so.days;
      long = m ∙ so.long;
      fits = fits_set a (d * per_day_of old) d old new so.fits w;
      filled = λ i low high.
          subst (λ (k : ℕ). HasCheapest a (i * (k + 1)) (get_or new.kept i [])) (sym m)
          (subst (λ (x : List (List Pot)). HasCheapest a (i * per_day_of old) (get_or x i [])) (sym w.kept)
          (row_set (λ j x. HasCheapest a (j * per_day_of old) x) old.kept d i w.row lt low w.cheapest (λ after. so.filled i (omega arith) (omega arith))));
    }

-- the last kept row
pub kept_end : (a : Arcs) (d : ℕ) (old new : DayRows) → FitsDays a old → d ≡ length old.kept - 1 → WritesKept a (intervals_of a) d old new → AreKeptFrom a d old new
kept_end a d old new fits e w =
    let n : length new.kept ≡ length old.kept = ap length w.kept ∙ long_set old.kept d w.row in
    let m : length new.window ≡ length old.window = ap length w.window in
    let some = fits.some_day in
    let at : intervals_of a ≡ d * per_day_of old = sym fits.intervals ∙ ap (λ (k : ℕ). k * per_day_of old) (sym e) in
    record {
      days = n;
      long = m;
      fits = fits_set a (intervals_of a) d old new fits w;
      filled = λ i low high.
          subst (λ (k : ℕ). HasCheapest a (i * (k + 1)) (get_or new.kept i [])) (sym m)
          (subst (λ (x : List (List Pot)). HasCheapest a (i * per_day_of old) (get_or x i [])) (sym w.kept)
          (row_set (λ j x. HasCheapest a (j * per_day_of old) x) old.kept d i w.row (omega arith) low (subst (λ (t : ℕ). HasCheapest a t w.row) at w.cheapest) (λ after. absurd (omega arith))));
    }

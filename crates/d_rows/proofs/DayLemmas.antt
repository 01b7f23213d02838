-- The rows of a day among all rows.
use Rattle.std.proofs.Common.{◌≡◌, ◌∙◌, ℕ, zero, suc, ◌+◌, ◌-◌, ◌<◌, ◌≤◌, List, [], length, get_or, set, take, drop, sym, ap, arith, get_or-take, get_or-drop, length-drop, length-take-le, drop-set-lt}
use Rattle.std.proofs.Math.Seq.{take-set-lt}
use Rattle.std.proofs.lemmas.Bool.Decides.{nat_tests}
use Rattle.std.proofs.lemmas.List.{take-set-le, drop-set-add}
use Rattle.std.specs.List.{refill}
use Rattle.d_num.specs.declared.pot.Pot.{Pot}
use Rattle.d_rows.specs.Blocks.{with_row}
use Rattle.d_rows.specs.Days.{DayRows, day_row, with_day_row, place}

module _ (rows : List (List Pot)) (days per_day : ℕ) (all : length rows ≡ days + per_day) (two : 2 ≤ per_day) where
  abbrev pub days_of : List (List Pot) → DayRows
  days_of xs = record { kept = take (days + 1) xs; window = drop (days + 1) xs }

  pub kept_long : length (take (days + 1) rows) ≡ days + 1
  kept_long = length-take-le (days + 1) rows (omega arith)

  pub window_long : length (drop (days + 1) rows) ≡ per_day - 1
  window_long = let l = length-drop (days + 1) rows in omega arith

  pub day_place : (day i : ℕ) → day < days → i ≤ per_day → get_or rows (place days per_day day i) [] ≡ day_row (days_of rows) day i
  day_place day zero lt le = sym (get_or-take (days + 1) rows day [] (omega arith))
  day_place day (suc i) lt le =
      let w = window_long in
      let kept : get_or (take (days + 1) rows) (day + 1) [] ≡ get_or rows (day + 1) [] = get_or-take (days + 1) rows (day + 1) [] (omega arith) in
      let inner : get_or (drop (days + 1) rows) i [] ≡ get_or rows (days + 1 + i) [] = get_or-drop (days + 1) rows i [] in
      Prim.grind (arith, nat_tests, w, kept, inner)

  pub day_written : (day i : ℕ) (ws : List Pot) → day ≤ days → i < per_day → days_of (with_row rows (place days per_day day i) ws) ≡ with_day_row (days_of rows) day i ws
  day_written day zero ws lt le =
      let old : List Pot = get_or rows day [] in
      let same : get_or (take (days + 1) rows) day [] ≡ old = get_or-take (days + 1) rows day [] (omega arith) in
      let r : List Pot = refill (length old) old ws in
      let kept : take (days + 1) (set rows day r) ≡ with_row (take (days + 1) rows) day ws =
      take-set-lt (days + 1) rows day r (omega arith) ∙ ap (λ (y : List Pot). set (take (days + 1) rows) day (refill (length y) y ws)) (sym same) in
      let window : drop (days + 1) (set rows day r) ≡ drop (days + 1) rows = drop-set-lt (days + 1) rows day r (omega arith) in
      λ k. record { kept = kept k; window = window k }
  day_written day (suc i) ws lt le =
      let k : ℕ = days + 1 + i in
      let here : place days per_day day (suc i) ≡ k = Prim.grind (arith, nat_tests) in
      let old : List Pot = get_or rows k [] in
      let same : get_or (drop (days + 1) rows) i [] ≡ old = get_or-drop (days + 1) rows i [] in
      let r : List Pot = refill (length old) old ws in
      let kept : take (days + 1) (set rows k r) ≡ take (days + 1) rows = take-set-le (days + 1) rows k r (omega arith) in
      let window : drop (days + 1) (set rows k r) ≡ with_row (drop (days + 1) rows) i ws =
      drop-set-add (days + 1) rows i r ∙ ap (λ (y : List Pot). set (drop (days + 1) rows) i (refill (length y) y ws)) (sym same) in
      let both : days_of (set rows k r) ≡ record { kept = take (days + 1) rows; window = with_row (drop (days + 1) rows) i ws } = λ j. record { kept = kept j; window = window j } in
      ap (λ (n : ℕ). days_of (with_row rows n ws)) here ∙ both

-- The first cheapest way, day by day.
use Rattle.std.proofs.Common.{◌≡◌, ◌≢◌, ◌+◌, ◌*◌, ◌<◌, ◌++◌, ℕ, suc, List, [], ◌∷◌, length, take, ap, sym, subst, ◌∙◌, refl, arith, append_assoc, slice_index_or, slice_set}
use native.Mathlib.Nat.{zero-mul}
use Rattle.std.proofs.lemmas.List.{append-nil, take_all, take_more_set}
use Rattle.d_num.specs.declared.pot.Pot.{Pot}
use Rattle.d_num.specs.declared.pot.Pot.TheVariants.{NoWay}
use Rattle.d_rows.specs.Days.{DayRows, day_row}
use Rattle.d_path.specs.Arcs.{Arcs, intervals_of, IsSound}
use Rattle.d_path.specs.Cheapest.{HasCheapest, IsFirstCheapest, entry}
use Rattle.d_path.specs.Best.{IsFirstMove}
use Rattle.d_path.specs.Days.{IsOnWay, per_day_of, FitsDays, AreKeptCheapest, AreInnerCheapest}
use Rattle.d_path.proofs.WayLemmas.{level_after_in}
use Rattle.d_path.proofs.StepLemmas.{first_end}
use Rattle.d_path.proofs.FirstLemmas.{cheapest_there, way_there}
use Rattle.d_path.proofs.DayLemmas.{next_is}

-- the move of interval t is known too
pub on_more : (a : Arcs) (t level number after : ℕ) (s : List ℕ) (row : List Pot) → t < length s → IsOnWay a t level s → HasCheapest a (t + 1) row → IsFirstMove a t level row number after → IsOnWay a (t + 1) after (slice_set s t number)
on_more a t level number after s row lt on cheap move =
    let inside = level_after_in a level number after move.leads in
    record {
      level_in = inside;
      there = cheapest_there a (t + 1) after (entry a row after) (cheap after inside.0 inside.1) move.there;
      so_far = λ tail rest.
          let front : take (t + 1) (slice_set s t number) ≡ take t s ++ (number ∷ []) = take_more_set s t number lt in
          let whole : take (t + 1) (slice_set s t number) ++ tail ≡ take t s ++ (number ∷ tail) = ap (λ (l : List ℕ). l ++ tail) front ∙ append_assoc (take t s) (number ∷ []) tail in
          subst (λ (l : List ℕ). IsFirstCheapest a 0 a.start l) (sym whole) (on.so_far (number ∷ tail) (move.begins tail rest));
    }

-- the days so far are walked, and the kept rows are as they were
pub record IsWalked (a : Arcs) (day : ℕ) (old r : DayRows) (level : ℕ) (s : List ℕ) : Type 0 where
  pub kept : r.kept ≡ old.kept
  pub long : length r.window ≡ length old.window
  pub fits : FitsDays a r
  pub on : IsOnWay a (day * per_day_of r) level s

pub walk_start : (a : Arcs) (old : DayRows) (s : List ℕ) → IsSound a → FitsDays a old → AreKeptCheapest a old → entry a (slice_index_or old.kept 0 []) a.start ≢ NoWay → IsWalked a 0 old old a.start s
walk_start a old s sound fits all there =
    let some = fits.some_day in
    record {
      kept = refl;
      long = refl;
      fits = fits;
      on = subst (λ (t : ℕ). IsOnWay a t a.start s) (sym (zero-mul (per_day_of old))) (record {
        level_in = sound.start_in;
        there = cheapest_there a 0 a.start (entry a (slice_index_or old.kept 0 []) a.start)
            (subst (λ (t : ℕ). HasCheapest a t (slice_index_or old.kept 0 [])) (zero-mul (per_day_of old)) (all 0 (omega arith)) a.start sound.start_in.0 sound.start_in.1) there;
        so_far = λ tail first. first;
      });
    }

-- a kept row still has its least costs
pub walk_kept : (a : Arcs) (d : ℕ) (old r : DayRows) → AreKeptCheapest a old → r.kept ≡ old.kept → length r.window ≡ length old.window → d < length r.kept → HasCheapest a (d * per_day_of r) (slice_index_or r.kept d [])
walk_kept a d old r all kept long lt =
    let there : d < length old.kept = subst (λ (k : List (List Pot)). d < length k) kept lt in
    subst (λ (k : List (List Pot)). HasCheapest a (d * per_day_of r) (slice_index_or k d [])) (sym kept)
    (subst (λ (n : ℕ). HasCheapest a (d * (n + 1)) (slice_index_or old.kept d [])) (sym long) (all d there))

-- the row after row i of a day, as the code counts
pub walk_row : (a : Arcs) (r : DayRows) (day i per : ℕ) → per_day_of r ≡ per → i < per → HasCheapest a ((day + 1) * per_day_of r) (slice_index_or r.kept (day + 1) []) → AreInnerCheapest a day r → HasCheapest a (day * per + i + 1) (day_row r day (i + 1))
walk_row a r day i per p lt ends inner =
    let row_at : suc i ≡ i + 1 = omega arith in
    subst (λ (n : ℕ). HasCheapest a (day * n + i + 1) (day_row r day (i + 1))) p
    (subst (λ (n : ℕ). HasCheapest a (day * per_day_of r + i + 1) (day_row r day n)) row_at
    (next_is a r day i ends (λ inside. inner i inside) (omega arith)))

-- after the last day the schedule is the first cheapest way
pub walk_end : (a : Arcs) (t level : ℕ) (s : List ℕ) (row : List Pot) → IsSound a → t ≡ intervals_of a → t ≡ length s → HasCheapest a t row → IsOnWay a t level s → IsFirstCheapest a 0 a.start s
walk_end a t level s row sound at_end long cheap on =
    let best = cheap level on.level_in.0 on.level_in.1 in
    let last = first_end a t level (entry a row level) sound (omega arith) best (way_there a t level (entry a row level) on.there best) in
    let whole : take t s ++ [] ≡ s = append-nil (take t s) ∙ take_all t s (omega arith) in
    subst (λ (l : List ℕ). IsFirstCheapest a 0 a.start l) whole (on.so_far [] last)

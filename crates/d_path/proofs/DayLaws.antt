-- Layers as they are made, and after a day is filled.
use Rattle.std.proofs.Common.{◌≡◌, ◌+◌, ◌-◌, ◌*◌, ◌<◌, ℕ, List, length, replicate, ap, sym, subst, ◌∙◌, arith}
use Rattle.std.proofs.lemmas.List.{length-replicate}
use Rattle.std.proofs.lemmas.List.Elements.{All-replicate}
use Rattle.d_num.specs.declared.pot.Pot.{Pot}
use Rattle.d_num.specs.declared.pot.Pot.TheVariants.{NoWay}
use Rattle.d_rows.specs.Days.{DayRows}
use Rattle.d_path.specs.Arcs.{Arcs, intervals_of}
use Rattle.d_path.specs.Cheapest.{IsWide}
use Rattle.d_path.specs.Days.{FitsDays, AreKeptCheapest}
use Rattle.d_path.proofs.DayWalks.{walk_kept}

rows_wide : (a : Arcs) (count levels : ℕ) (rows : List (List Pot)) → a.floor + levels ≡ a.capacity + 1 → rows ≡ replicate count (replicate levels NoWay) → IsWide a.floor a.capacity rows
rows_wide a count levels rows wide is =
    let row : a.floor + length (replicate levels NoWay) ≡ a.capacity + 1 = ap (λ (n : ℕ). a.floor + n) (length-replicate levels NoWay) ∙ wide in
    subst (λ (r : List (List Pot)). IsWide a.floor a.capacity r) (sym is) (All-replicate (λ (r : List Pot). a.floor + length r ≡ a.capacity + 1) count (replicate levels NoWay) row)

-- layers that are made for the days of these arcs fit them
pub made_fits : (a : Arcs) (r : DayRows) (days per_day levels : ℕ) → 0 < days → 0 < per_day → days * per_day ≡ intervals_of a → a.floor + levels ≡ a.capacity + 1
    → r.kept ≡ replicate (days + 1) (replicate levels NoWay) → r.window ≡ replicate (per_day - 1) (replicate levels NoWay) → FitsDays a r
made_fits a r days per_day levels some_day some_interval all wide kept window =
    let kept_long : length r.kept ≡ days + 1 = ap length kept ∙ length-replicate (days + 1) (replicate levels NoWay) in
    let window_long : length r.window ≡ per_day - 1 = ap length window ∙ length-replicate (per_day - 1) (replicate levels NoWay) in
    let days_is : length r.kept - 1 ≡ days = omega arith in
    let per_day_is : length r.window + 1 ≡ per_day = omega arith in
    record {
      some_day = omega arith;
      intervals = ap (λ (n : ℕ). n * (length r.window + 1)) days_is ∙ ap (λ (n : ℕ). days * n) per_day_is ∙ all;
      kept_wide = rows_wide a (days + 1) levels r.kept wide kept;
      window_wide = rows_wide a (per_day - 1) levels r.window wide window;
    }

-- where the kept rows stay, and as many intervals a day, they still have their least costs
pub kept_stay : (a : Arcs) (old r : DayRows) → AreKeptCheapest a old → r.kept ≡ old.kept → length r.window ≡ length old.window → AreKeptCheapest a r
kept_stay a old r all kept long d lt = walk_kept a d old r all kept long lt

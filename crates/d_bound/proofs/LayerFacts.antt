-- Layers for the days of a month.
use Rattle.std.proofs.Common.{◌≡◌, ◌⊎◌, inl, inr, ℕ, ℤ, ◌+◌, ◌-◌, ◌*◌, ◌/◌, ◌<◌, ◌≤◌, List, [], length, replicate, Bool, sym, ap, ◌∙◌, arith}
use Rattle.std.proofs.Math.Path.{ap₂}
use Rattle.std.proofs.lemmas.Bool.Decides.{nat_tests}
use Rattle.jiff_core.specs.Calendar.{days_in_month}
use Rattle.d_num.specs.Amount.{IsReadingLength}
use Rattle.d_num.specs.declared.pot.Pot.TheVariants.{NoWay}
use Rattle.d_rows.specs.Days.{DayRows}
use Rattle.d_path.specs.Days.{FitsDays}
use Rattle.d_path.proofs.DayLaws.{made_fits}
use Rattle.d_bill.specs.Inputs.{Inputs, IsInRange}
use Rattle.d_bill.specs.Slopes.{rates_of}
use Rattle.d_bound.specs.Fair.{IsFair}
use Rattle.d_bound.specs.PlanWays.{plan_arcs, all_powers}
use Rattle.d_bound.specs.Bounders.{AreLayersOf}
use Rattle.d_bound.proofs.RateFacts.{fair_of}
use Rattle.d_bound.proofs.PlanArcs.{intervals_is}

-- a day has 96, 48 or 24 intervals
day_long : (minutes days net : ℕ) → IsReadingLength minutes → net * minutes ≡ days * 1440 → (days * (1440 / minutes) ≡ net) × (2 ≤ 1440 / minutes)
day_long minutes days net pace whole = by_pace minutes (cases minutes pace) whole
  where
    cases : (minutes : ℕ) → IsReadingLength minutes → (minutes ≡ 15) ⊎ ((minutes ≡ 30) ⊎ (minutes ≡ 60))
    cases minutes h = grind (arith, nat_tests)

    by_pace : (m : ℕ) → (m ≡ 15) ⊎ ((m ≡ 30) ⊎ (m ≡ 60)) → net * m ≡ days * 1440 → (days * (1440 / m) ≡ net) × (2 ≤ 1440 / m)
    by_pace m (inl e) whole = rw e (let w : net * 15 ≡ days * 1440 = ap (λ (k : ℕ). net * k) (sym e) ∙ whole in (omega arith, omega arith))
    by_pace m (inr (inl e)) whole = rw e (let w : net * 30 ≡ days * 1440 = ap (λ (k : ℕ). net * k) (sym e) ∙ whole in (omega arith, omega arith))
    by_pace m (inr (inr e)) whole = rw e (let w : net * 60 ≡ days * 1440 = ap (λ (k : ℕ). net * k) (sym e) ∙ whole in (omega arith, omega arith))

-- how many intervals a day has
pub day_intervals : (i : Inputs) (minutes : ℕ) → IsInRange i → minutes ≡ i.minutes → 2 ≤ 1440 / minutes
day_intervals i minutes fine is = rw is (day_long i.minutes (days_in_month i.year i.number) (length i.net) fine.minutes fine.whole).1

-- layers that are made for them are the problem's
pub layers_made : (i : Inputs) (r : DayRows) (days minutes levels : ℕ) → IsInRange i → days ≡ days_in_month i.year i.number → minutes ≡ i.minutes → i.storage.floor + levels ≡ i.storage.capacity + 1
    → r.kept ≡ replicate (days + 1) (replicate levels NoWay) → r.window ≡ replicate (1440 / minutes - 1) (replicate levels NoWay) → AreLayersOf i r
layers_made i r days minutes levels fine days_is minutes_is wide kept window =
    let long = day_long i.minutes (days_in_month i.year i.number) (length i.net) fine.minutes fine.whole in
    let per_day : 1440 / minutes ≡ 1440 / i.minutes = ap (λ (m : ℕ). 1440 / m) minutes_is in
    let all : days * (1440 / minutes) ≡ length i.net = ap₂ ◌*◌ days_is per_day ∙ long.0 in
    let some = fine.some_interval in
    made_fits (plan_arcs i all_powers (rates_of i [])) r days (1440 / minutes) levels (some_day days (1440 / minutes) (length i.net) all some) (omega (arith, per_day, long.1))
    (all ∙ sym (intervals_is i all_powers (rates_of i []) (fair_of i fine))) wide kept window
  where
    some_day : (days per_day net : ℕ) → days * per_day ≡ net → 1 ≤ net → 0 < days
    some_day days per_day net all some = grind arith

-- layers of the problem fit all its ways
pub fits_ways : (i : Inputs) (allows : ℕ → ℤ → Bool) (rates : List ℤ) (r : DayRows) → IsFair i → AreLayersOf i r → FitsDays (plan_arcs i allows rates) r
fits_ways i allows rates r fine fits = record {
  some_day = fits.some_day;
  intervals = fits.intervals ∙ intervals_is i all_powers (rates_of i []) fine ∙ sym (intervals_is i allows rates fine);
  kept_wide = fits.kept_wide;
  window_wide = fits.window_wide;
}

-- and the other way round
pub ways_fit : (i : Inputs) (allows : ℕ → ℤ → Bool) (rates : List ℤ) (r : DayRows) → IsFair i → FitsDays (plan_arcs i allows rates) r → AreLayersOf i r
ways_fit i allows rates r fine fits = record {
  some_day = fits.some_day;
  intervals = fits.intervals ∙ intervals_is i allows rates fine ∙ sym (intervals_is i all_powers (rates_of i []) fine);
  kept_wide = fits.kept_wide;
  window_wide = fits.window_wide;
}

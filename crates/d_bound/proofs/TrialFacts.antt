-- Where no period is tiered nothing depends on slopes: each trial has the value of the first.
use Rattle.std.proofs.Common.{◌≡◌, ℕ, zero, suc, ℤ, pos, ◌+ℤ◌, ◌<◌, Bool, true, false, List, [], length, Option, Some, None, refl, sym, ap, ◌∙◌, arith, option_map, if◌then◌else◌, slice_index_or}
use Rattle.std.proofs.Math.Path.{ap₂}
use Rattle.std.proofs.lemmas.Int.{ints}
use Rattle.d_num.specs.Sums.{sum_of_first}
use Rattle.d_num.proofs.Sums.{sum_none}
use Rattle.d_tier.specs.Gaps.{least_gap}
use Rattle.d_tariff.specs.Terms.{period_at}
use Rattle.d_box.specs.declared.space.Space.{Space}
use Rattle.d_box.specs.declared.slopes.Slopes.{Slopes}
use Rattle.d_box.specs.Boxes.{range_at}
use Rattle.d_box.specs.Splits.{tiers_at}
use Rattle.d_box.specs.Trials.{rate_at}
use Rattle.d_bill.specs.Inputs.{Inputs}
use Rattle.d_bill.specs.Prices.{first_price}
use Rattle.d_bill.specs.Slopes.{numbers_where, tiered_at, tiered, slope_rate, rates_of}
use Rattle.d_bill.proofs.TieredFacts.{numbers_some}
use Rattle.d_bill.proofs.Values.{values_same}
use Rattle.d_bound.specs.PlanWays.{plan_arcs, rated_cost}
use Rattle.d_bound.specs.Choice.{cheapest_of}
use Rattle.d_bound.specs.Caps.{is_capped}
use Rattle.d_bound.specs.Nodes.{tiered_tables, box_schedule, low_charges, low_gaps, relaxed_by, relaxed_value, trial_of, trials_of, is_above, first_greatest, slopes_of}
use Rattle.d_bound.specs.BoxLaws.{IsUntiered}

-- no period is tiered
untiered_at : (i : Inputs) → tiered i ≡ [] → (number : ℕ) → number < 36 → tiered_at i number ≡ false
untiered_at i none number below = by_test (tiered_at i number) (λ passes. numbers_some 36 number (tiered_at i) below passes none)
  where
    by_test : (test : Bool) → (test ≡ true → ⊥) → test ≡ false
    by_test true never = absurd (never refl)
    by_test false never = refl

-- where no period is tiered the rates are the prices
pub untiered_rates : (i : Inputs) (slopes other : List ℤ) → tiered i ≡ [] → rates_of i slopes ≡ rates_of i other
unfolding rates_of
untiered_rates i slopes other none =
    values_same 36 (slope_rate i slopes) (slope_rate i other) (λ number below. plain (tiered_at i number) (slopes_at slopes number) (slopes_at other number) (first_price (period_at i.energy number)) (untiered_at i none number below))
  where
    slopes_at : List ℤ → ℕ → ℤ
    slopes_at rates number = slice_index_or rates (length (numbers_where (tiered_at i) number)) (pos 0)

    plain : (test : Bool) (one two price : ℤ) → test ≡ false → (if test then one else price) ≡ (if test then two else price)
    plain test one two price e = rw e refl

-- the schedule of a box
pub schedule_same : (i : Inputs) (space : Space) (slopes other : Slopes) → tiered i ≡ [] → box_schedule i space slopes ≡ box_schedule i space other
schedule_same i space slopes other none =
    ap (λ (rates : List ℤ). cheapest_of (plan_arcs i (is_capped i space) rates)) (untiered_rates i slopes.rates other.rates none)

-- there are no gaps
pub no_low_gaps : (i : Inputs) (space : Space) (slopes : Slopes) → tiered i ≡ [] → low_gaps i space slopes ≡ pos 0
no_low_gaps i space slopes none = ap (λ (n : ℕ). sum_of_first n gap) (ap (λ (l : List ℕ). length l) none) ∙ sum_none gap
  where
    gap : ℕ → ℤ
    gap k = least_gap (tiers_at (tiered_tables i) k) (range_at space.totals k).low (range_at space.totals k).high (rate_at slopes k)

-- the four parts of a schedule
relaxed_same : (i : Inputs) (space : Space) (slopes other : Slopes) → tiered i ≡ [] → (s : List ℕ) → relaxed_by i space slopes s ≡ relaxed_by i space other s
relaxed_same i space slopes other none s =
    ap₂ (λ (gaps cost : ℤ). ((i.fixed +ℤ low_charges i space) +ℤ gaps) +ℤ cost) (no_low_gaps i space slopes none ∙ sym (no_low_gaps i space other none))
    (ap (λ (rates : List ℤ). rated_cost i rates s) (untiered_rates i slopes.rates other.rates none))

-- the relaxed value
pub value_same : (i : Inputs) (space : Space) (slopes other : Slopes) → tiered i ≡ [] → relaxed_value i space slopes ≡ relaxed_value i space other
value_same i space slopes other none =
    ap (option_map (relaxed_by i space slopes)) (schedule_same i space slopes other none) ∙ by_found (box_schedule i space other)
  where
    by_found : (found : Option (List ℕ)) → option_map (relaxed_by i space slopes) found ≡ option_map (relaxed_by i space other) found
    by_found None = refl
    by_found (Some s) = ap Some (relaxed_same i space slopes other none s)

-- of equal values the first is the first greatest
first_of_equals : (f : ℕ → Option ℤ) (n : ℕ) → ((k : ℕ) → f k ≡ f 0) → first_greatest f n ≡ 0
unfolding first_greatest
first_of_equals f zero same = refl
first_of_equals f (suc n) same = step (first_greatest f n) (first_of_equals f n same)
  where
    not_itself : (value : Option ℤ) → is_above value value ≡ false
    not_itself None = refl
    not_itself (Some x) = grind (arith, ints)

    not_above : (one two : Option ℤ) → one ≡ two → is_above one two ≡ false
    not_above one two e = rw e (not_itself two)

    step : (best : ℕ) → best ≡ 0 → (if is_above (f n) (f best) then n else best) ≡ 0
    step best first = rw (not_above (f n) (f best) (same n ∙ sym (same best))) first

-- where no period is tiered the slopes are those of the first trial
pub first_trial : (i : Inputs) (space : Space) (parent : Option Slopes) → IsUntiered i → slopes_of i space parent ≡ trial_of i space parent 0
first_trial i space parent untiered =
    ap (trial_of i space parent)
    (first_of_equals (λ number. relaxed_value i space (trial_of i space parent number)) (trials_of i)
    (λ number. value_same i space (trial_of i space parent number) (trial_of i space parent 0) untiered.none))

-- Bounds never fall from a box to a part of it, and the bill of a point isn't above its bound.
use Rattle.std.proofs.Common.{◌≡◌, ℕ, ℤ, pos, ◌+ℤ◌, ◌-ℤ◌, ◌≤ℤ◌, ◌<◌, List, length, Option, Some, None, refl, subst, arith, slice_get, slice_index_or, option_map, Bool, true, false, if◌then◌else◌}
use Rattle.std.proofs.lemmas.Int.{ints}
use Rattle.std.proofs.lemmas.Option.{slice_get-get_or}
use Rattle.d_box.specs.declared.space.Space.{Space}
use Rattle.d_box.specs.declared.slopes.Slopes.{Slopes}
use Rattle.d_box.specs.Boxes.{range_at, AreRanges, IsPart}
use Rattle.d_box.specs.Splits.{no_peak, HasNoGap}
use Rattle.d_bill.specs.Inputs.{Inputs, IsInRange, is_in_group}
use Rattle.d_bill.specs.Flows.{flow_at, power_of}
use Rattle.d_bill.specs.Totals.{peak_to, tally_of}
use Rattle.d_bill.specs.Bills.{demand_charge, group_charge, group_charges, sum_of, raised, bill_of}
use Rattle.d_bill.specs.Slopes.{rates_of}
use Rattle.d_bill.proofs.Values.{values_read}
use Rattle.d_bill.proofs.ChargeFacts.{few_groups}
use Rattle.d_bound.specs.PlanWays.{power_at, rated_cost}
use Rattle.d_bound.specs.Caps.{KeepsCaps}
use Rattle.d_bound.specs.Nodes.{box_schedule, low_charges, relaxed_by, relaxed_value, slopes_of}
use Rattle.d_bound.specs.BoxLaws.{IsUntiered, IsAtMost, BoundsRise, PointsMeet}
use Rattle.d_bound.proofs.SumFacts.{sum_rises, greatest_below}
use Rattle.d_bound.proofs.TrialFacts.{value_same}
use Rattle.d_bound.proofs.BoxFacts.{IsFoundWithin, boxes_first, demand_rises, untiered_sum, untiered_relaxed, raised_order}

-- what keeps the caps of a part keeps those of the box
part_caps : (i : Inputs) (part space : Space) (s : List ℕ) → IsPart part space → KeepsCaps i part s → KeepsCaps i space s
part_caps i part space s within caps t group inside held =
    let here = caps t group inside held in
    let high = within.peaks.high group in
    omega (arith, ints)

-- at the low ends of a part the groups charge no less
part_charges : (i : Inputs) (part space : Space) → IsInRange i → IsPart part space → low_charges i space ≤ℤ low_charges i part
part_charges i part space fine within =
    sum_rises (length i.peaks) (λ group. demand_charge (slice_get i.peaks group) (range_at space.peaks group).low) (λ group. demand_charge (slice_get i.peaks group) (range_at part.peaks group).low)
    (λ group there. demand_rises i group (range_at space.peaks group).low (range_at part.peaks group).low fine there (within.peaks.low group))

-- at the same slopes the relaxed value of a part, raised, isn't below that of the box
value_rises : (i : Inputs) (part space : Space) (slopes : Slopes) → IsUntiered i → IsPart part space
    → IsAtMost (option_map (raised i.minimum) (relaxed_value i space slopes)) (option_map (raised i.minimum) (relaxed_value i part slopes))
value_rises i part space slopes untiered within = by_both (box_schedule i space slopes) (box_schedule i part slopes) (boxes_first i space slopes untiered) (boxes_first i part slopes untiered)
  where
    linear : (fixed low high one other here there : ℤ) → low ≤ℤ high → one ≤ℤ other → here ≡ (fixed +ℤ low) +ℤ one → there ≡ (fixed +ℤ high) +ℤ other → here ≤ℤ there
    linear fixed low high one other here there a b e f = omega (arith, ints)

    by_both : (whole less : Option (List ℕ)) → IsFoundWithin i space slopes whole → IsFoundWithin i part slopes less
        → IsAtMost (option_map (raised i.minimum) (option_map (relaxed_by i space slopes) whole)) (option_map (raised i.minimum) (option_map (relaxed_by i part slopes) less))
    by_both None None none nothing = tt
    by_both (Some s) None first nothing = tt
    by_both None (Some z) none other = none z other.feasible (part_caps i part space z within other.caps)
    by_both (Some s) (Some z) first other =
        raised_order i.minimum (relaxed_by i space slopes s) (relaxed_by i part slopes z)
        (linear i.fixed (low_charges i space) (low_charges i part) (rated_cost i (rates_of i slopes.rates) s) (rated_cost i (rates_of i slopes.rates) z) (relaxed_by i space slopes s) (relaxed_by i part slopes z)
        (part_charges i part space untiered.range within) (first.least z other.feasible (part_caps i part space z within other.caps)) (untiered_relaxed i space slopes s untiered)
        (untiered_relaxed i part slopes z untiered))

-- a bound never falls
pub bounds_rises : BoundsRise
bounds_rises i part space parent untiered within =
    let slopes = slopes_of i space parent in
    subst (λ (value : Option ℤ). IsAtMost (option_map (raised i.minimum) (relaxed_value i space slopes)) (option_map (raised i.minimum) value))
    (value_same i part slopes (slopes_of i part (Some slopes)) untiered.none) (value_rises i part space slopes untiered within)

-- the highest demand of what keeps the caps isn't above the high end of its range
peak_capped : (i : Inputs) (space : Space) (s : List ℕ) (group : ℕ) → AreRanges space.peaks → KeepsCaps i space s → peak_to i (flow_at i s) (length i.net) group ≤ℤ (range_at space.peaks group).high
peak_capped i space s group ranges caps =
    greatest_below (length i.net) (λ t. if is_in_group i t group then power_of i.minutes (flow_at i s t) else pos 0) (range_at space.peaks group).high high
    (λ t inside. by_test t (is_in_group i t group) (λ held. caps t group inside held))
  where
    high : pos 0 ≤ℤ (range_at space.peaks group).high
    high = let low = (ranges group).0 in let order = (ranges group).1 in omega (arith, ints)

    by_test : (t : ℕ) (held : Bool) → (held ≡ true → power_at i s t ≤ℤ (range_at space.peaks group).high) → (if held then power_at i s t else pos 0) ≤ℤ (range_at space.peaks group).high
    by_test t true capped = capped refl
    by_test t false capped = high

-- where no group charges more at the high end of its range, it charges no more for what keeps the caps than at the low end
point_charges : (i : Inputs) (space : Space) (s : List ℕ) → IsInRange i → AreRanges space.peaks → HasNoGap space i.peaks (length i.peaks) → KeepsCaps i space s
    → group_charges i (tally_of i s) ≤ℤ low_charges i space
point_charges i space s fine ranges no_gap caps =
    sum_rises (length i.peaks) (group_charge i (tally_of i s)) (λ group. demand_charge (slice_get i.peaks group) (range_at space.peaks group).low) each
  where
    between : (charge high low : ℤ) → charge ≤ℤ high → (high -ℤ low) ≤ℤ pos 0 → charge ≤ℤ low
    between charge high low a b = omega (arith, ints)

    gap : (group : ℕ) → group < length i.peaks
        → (demand_charge (slice_get i.peaks group) (range_at space.peaks group).high -ℤ demand_charge (slice_get i.peaks group) (range_at space.peaks group).low) ≤ℤ pos 0
    gap group there = rw (slice_get-get_or i.peaks group no_peak there) (no_gap group there)

    each : (group : ℕ) → group < length i.peaks → group_charge i (tally_of i s) group ≤ℤ demand_charge (slice_get i.peaks group) (range_at space.peaks group).low
    each group there =
        between (group_charge i (tally_of i s) group) (demand_charge (slice_get i.peaks group) (range_at space.peaks group).high)
        (demand_charge (slice_get i.peaks group) (range_at space.peaks group).low)
        (demand_rises i group (slice_index_or (tally_of i s).peaks group (pos 0)) (range_at space.peaks group).high fine there
        (rw (values_read 37 (peak_to i (flow_at i s) (length i.net)) group (pos 0) (few_groups i group fine there)) (peak_capped i space s group ranges caps)))
        (gap group there)

-- the bill of a point isn't above its bound
pub points_meets : PointsMeet
points_meets i lists space parent untiered box point = by_found (box_schedule i space (slopes_of i space parent)) (boxes_first i space (slopes_of i space parent) untiered)
  where
    linear : (fixed charges low cost whole relaxed : ℤ) → charges ≤ℤ low → whole ≡ (fixed +ℤ charges) +ℤ cost → relaxed ≡ (fixed +ℤ low) +ℤ cost → whole ≤ℤ relaxed
    linear fixed charges low cost whole relaxed a e f = omega (arith, ints)

    by_found : (found : Option (List ℕ)) → IsFoundWithin i space (slopes_of i space parent) found
        → IsAtMost (option_map (bill_of i) found) (option_map (raised i.minimum) (option_map (relaxed_by i space (slopes_of i space parent)) found))
    by_found None none = tt
    by_found (Some s) first =
        let slopes = slopes_of i space parent in
        raised_order i.minimum (sum_of i (tally_of i s)) (relaxed_by i space slopes s)
        (linear i.fixed (group_charges i (tally_of i s)) (low_charges i space) (rated_cost i (rates_of i slopes.rates) s) (sum_of i (tally_of i s)) (relaxed_by i space slopes s)
        (point_charges i space s untiered.range box.box.peaks point.no_gap first.caps) (untiered_sum i slopes.rates s untiered) (untiered_relaxed i space slopes s untiered))

-- The schedule of a box, its bill and its bound, where no period is tiered.
use Rattle.std.proofs.Common.{◌≡◌, ℕ, ℤ, pos, ◌+ℤ◌, ◌≤ℤ◌, ◌<◌, List, length, Option, Some, None, MatchOption, refl, ap, ◌∙◌, subst, arith, get_or, slice_get, slice_index_or, option_map, if◌then◌else◌}
use Rattle.std.proofs.lemmas.Int.{ints, clamps}
use Rattle.std.proofs.lemmas.Option.{get_or_from_slice_get}
use Rattle.d_tier.specs.declared.peak.Peak.{Peak}
use Rattle.d_tier.proofs.RiseFacts.{rising}
use Rattle.d_box.specs.declared.space.Space.{Space}
use Rattle.d_box.specs.declared.slopes.Slopes.{Slopes}
use Rattle.d_box.specs.Boxes.{range_at}
use Rattle.d_bill.specs.Inputs.{Inputs, IsInRange, HasPeakPrices, is_in_group}
use Rattle.d_bill.specs.Flows.{flow_at, power_of}
use Rattle.d_bill.specs.Totals.{peak_to, tally_of}
use Rattle.d_bill.specs.Schedules.{IsFeasible}
use Rattle.d_bill.specs.Bills.{demand_charge, group_charge, group_charges, sum_of, raised, bill_of}
use Rattle.d_bill.specs.Prices.{rate_gap}
use Rattle.d_bill.specs.Slopes.{sum_over, rates_of, tier_gaps}
use Rattle.d_bill.proofs.Values.{values_read, values_long}
use Rattle.d_bill.proofs.ChargeFacts.{few_groups}
use Rattle.d_bill.proofs.SlopeFacts.{parted_by_slopes}
use Rattle.d_bound.specs.PlanWays.{power_at, rated_cost}
use Rattle.d_bound.specs.Caps.{is_capped, KeepsCaps}
use Rattle.d_bound.specs.Roots.{HoldsSchedule}
use Rattle.d_bound.specs.Nodes.{box_arcs, box_schedule, low_charges, low_gaps, relaxed_by, relaxed_value, slopes_of}
use Rattle.d_bound.specs.BoxLaws.{IsUntiered, IsAtMost, IsFirstWithin, BoxesHaveFirst, IsBilled, BillsAreReached, BoundsAreBelow}
use Rattle.d_bound.proofs.RateFacts.{fair_of}
use Rattle.d_bound.proofs.DrawnWays.{first_drawn, none_drawn}
use Rattle.d_bound.proofs.ChoiceFacts.{IsCheapestFound, cheapest_is}
use Rattle.d_bound.proofs.CapFacts.{caps_draw, draws_cap, group_there}
use Rattle.d_bound.proofs.SumFacts.{sum_rises, greatest_above}
use Rattle.d_bound.proofs.TrialFacts.{no_low_gaps}

-- none where no feasible schedule keeps the caps, or the first cheapest of those that do
abbrev pub IsFoundWithin : Inputs → Space → Slopes → Option (List ℕ) → Type 0
IsFoundWithin i space slopes found =
    MatchOption found ((s : List ℕ) → IsFeasible i s → KeepsCaps i space s → ⊥) (λ s. IsFirstWithin i space (rated_cost i (rates_of i slopes.rates)) s)

-- the schedule of a box is the first cheapest within its caps
pub boxes_first : BoxesHaveFirst
boxes_first i space slopes untiered = by_found (box_schedule i space slopes) (cheapest_is (box_arcs i space slopes))
  where
    by_found : (found : Option (List ℕ)) → IsCheapestFound (box_arcs i space slopes) found → IsFoundWithin i space slopes found
    by_found None none = λ s feasible caps. none_drawn i (is_capped i space) (rates_of i slopes.rates) (fair_of i untiered.range) none s feasible (caps_draw i space s caps)
    by_found (Some s) first =
        let drawn = first_drawn i (is_capped i space) (rates_of i slopes.rates) (fair_of i untiered.range) s first in
        record {
          feasible = drawn.feasible;
          caps = draws_cap i space s drawn.draws;
          least = λ z feasible caps. drawn.least z feasible (caps_draw i space z caps);
          first = λ z feasible caps same. drawn.first z feasible (caps_draw i space z caps) same;
        }

-- a schedule that is found is the first cheapest
pub first_found : (i : Inputs) (space : Space) (slopes : Slopes) (s : List ℕ) → IsUntiered i → box_schedule i space slopes ≡ Some s
    → IsFirstWithin i space (rated_cost i (rates_of i slopes.rates)) s
first_found i space slopes s untiered found = subst (IsFoundWithin i space slopes) found (boxes_first i space slopes untiered)

-- a bill is that of the box's schedule
pub bills_reached : BillsAreReached
bills_reached i space parent bill untiered is = by_found (box_schedule i space (slopes_of i space parent)) refl is
  where
    by_found : (found : Option (List ℕ)) → box_schedule i space (slopes_of i space parent) ≡ found → option_map (bill_of i) found ≡ Some bill
        → (s : List ℕ) × IsBilled i space (slopes_of i space parent) bill s
    by_found None e none = absurd (cc)
    by_found (Some s) e here =
        let first = first_found i space (slopes_of i space parent) s untiered e in
        (s, record { found = e; feasible = first.feasible; caps = first.caps; bill = amount (bill_of i s) here })
      where
        amount : (z : ℤ) → ◌≡◌ {A = Option ℤ} (Some z) (Some bill) → bill ≡ z
        amount z e = cc

-- what a box holds keeps its caps
pub held_caps : (i : Inputs) (space : Space) (s : List ℕ) → HoldsSchedule i space s → KeepsCaps i space s
held_caps i space s holds t group inside held =
    let there : group < length i.peaks = group_there i t group held in
    let high = (holds.peaks_in group (omega (arith, values_long (length i.peaks) (peak_to i (flow_at i s) (length i.net))))).high in
    let above = greatest_above (length i.net) (λ k. if is_in_group i k group then power_of i.minutes (flow_at i s k) else pos 0) t inside in
    let here : (if is_in_group i t group then power_of i.minutes (flow_at i s t) else pos 0) ≡ power_at i s t = rw held refl in
    linear (power_at i s t) (peak_to i (flow_at i s) (length i.net) group) (range_at space.peaks group).high (if is_in_group i t group then power_of i.minutes (flow_at i s t) else pos 0) here above
    (rw (values_read (length i.peaks) (peak_to i (flow_at i s) (length i.net)) group (pos 0) there) at high)
  where
    linear : (power peak high term : ℤ) → term ≡ power → term ≤ℤ peak → peak ≤ℤ high → power ≤ℤ high
    linear power peak high term e a b = omega (arith, ints)

-- a higher demand isn't charged less
pub demand_rises : (i : Inputs) (group : ℕ) (x y : ℤ) → IsInRange i → group < length i.peaks → x ≤ℤ y
    → demand_charge (slice_get i.peaks group) x ≤ℤ demand_charge (slice_get i.peaks group) y
demand_rises i group x y fine there order = by_peak (slice_get i.peaks group) refl
  where
    by_peak : (found : Option Peak) → slice_get i.peaks group ≡ found → demand_charge found x ≤ℤ demand_charge found y
    by_peak None e = omega (arith, ints)
    by_peak (Some peak) e =
        let stands : HasPeakPrices (get_or i.peaks group peak) = fine.groups group peak there in
        let here : HasPeakPrices peak = rw (get_or_from_slice_get i.peaks group peak peak e) at stands in
        rising peak x y here.table (λ k d below. (here.tiers k d below).0) order

-- what the groups charge at their low ends isn't above what they charge for a schedule that the box holds
charges_below : (i : Inputs) (space : Space) (s : List ℕ) → IsInRange i → HoldsSchedule i space s → low_charges i space ≤ℤ group_charges i (tally_of i s)
charges_below i space s fine holds =
    sum_rises (length i.peaks) (λ group. demand_charge (slice_get i.peaks group) (range_at space.peaks group).low) (group_charge i (tally_of i s)) each
  where
    each : (group : ℕ) → group < length i.peaks → demand_charge (slice_get i.peaks group) (range_at space.peaks group).low ≤ℤ group_charge i (tally_of i s) group
    each group there =
        let low = (holds.peaks_in group (omega (arith, values_long (length i.peaks) (peak_to i (flow_at i s) (length i.net))))).low in
        let peak : (range_at space.peaks group).low ≤ℤ peak_to i (flow_at i s) (length i.net) group = rw (values_read (length i.peaks) (peak_to i (flow_at i s) (length i.net)) group (pos 0) there) at low in
        demand_rises i group (range_at space.peaks group).low (slice_index_or (tally_of i s).peaks group (pos 0)) fine there
        (rw (values_read 37 (peak_to i (flow_at i s) (length i.net)) group (pos 0) (few_groups i group fine there)) peak)

-- the sum of a schedule in three parts
pub untiered_sum : (i : Inputs) (rates : List ℤ) (s : List ℕ) → IsUntiered i → sum_of i (tally_of i s) ≡ (i.fixed +ℤ group_charges i (tally_of i s)) +ℤ rated_cost i (rates_of i rates) s
untiered_sum i rates s untiered =
    parted_by_slopes i rates (flow_at i s) untiered.range
    ∙ linear (i.fixed +ℤ group_charges i (tally_of i s)) (tier_gaps i rates (tally_of i s)) (rated_cost i (rates_of i rates) s)
    (ap (λ (l : List ℕ). sum_over l (rate_gap i (rates_of i rates) (tally_of i s))) untiered.none)
  where
    linear : (charges gaps cost : ℤ) → gaps ≡ pos 0 → charges +ℤ (gaps +ℤ cost) ≡ charges +ℤ cost
    linear charges gaps cost e = omega (arith, ints)

-- the relaxed value of a schedule in three parts
pub untiered_relaxed : (i : Inputs) (space : Space) (slopes : Slopes) (s : List ℕ) → IsUntiered i
    → relaxed_by i space slopes s ≡ (i.fixed +ℤ low_charges i space) +ℤ rated_cost i (rates_of i slopes.rates) s
untiered_relaxed i space slopes s untiered =
    linear (i.fixed +ℤ low_charges i space) (low_gaps i space slopes) (rated_cost i (rates_of i slopes.rates) s) (no_low_gaps i space slopes untiered.none)
  where
    linear : (charges gaps cost : ℤ) → gaps ≡ pos 0 → (charges +ℤ gaps) +ℤ cost ≡ charges +ℤ cost
    linear charges gaps cost e = omega (arith, ints)

-- raising to a minimum keeps the order
pub raised_order : (minimum : Option ℤ) (x y : ℤ) → x ≤ℤ y → raised minimum x ≤ℤ raised minimum y
raised_order None x y order = order
raised_order (Some least) x y order = omega (arith, ints, clamps)

-- at any slopes the relaxed value, raised, isn't above the bill of a schedule that the box holds
value_below : (i : Inputs) (space : Space) (slopes : Slopes) (s : List ℕ) → IsUntiered i → IsFeasible i s → HoldsSchedule i space s
    → IsAtMost (option_map (raised i.minimum) (relaxed_value i space slopes)) (Some (bill_of i s))
value_below i space slopes s untiered feasible holds = by_found (box_schedule i space slopes) (boxes_first i space slopes untiered)
  where
    linear : (fixed low charges cheapest cost relaxed whole : ℤ) → low ≤ℤ charges → cheapest ≤ℤ cost → relaxed ≡ (fixed +ℤ low) +ℤ cheapest → whole ≡ (fixed +ℤ charges) +ℤ cost
        → relaxed ≤ℤ whole
    linear fixed low charges cheapest cost relaxed whole a b e f = omega (arith, ints)

    by_found : (found : Option (List ℕ)) → IsFoundWithin i space slopes found → IsAtMost (option_map (raised i.minimum) (option_map (relaxed_by i space slopes) found)) (Some (bill_of i s))
    by_found None none = none s feasible (held_caps i space s holds)
    by_found (Some z) first =
        raised_order i.minimum (relaxed_by i space slopes z) (sum_of i (tally_of i s))
        (linear i.fixed (low_charges i space) (group_charges i (tally_of i s)) (rated_cost i (rates_of i slopes.rates) z) (rated_cost i (rates_of i slopes.rates) s) (relaxed_by i space slopes z)
        (sum_of i (tally_of i s)) (charges_below i space s untiered.range holds) (first.least s feasible (held_caps i space s holds)) (untiered_relaxed i space slopes z untiered)
        (untiered_sum i slopes.rates s untiered))

-- so it is at the slopes of a node
pub bounds_below : BoundsAreBelow
bounds_below i space parent s untiered feasible holds = value_below i space (slopes_of i space parent) s untiered feasible holds

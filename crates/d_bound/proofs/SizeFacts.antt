-- How large a relaxed value can be.
use Rattle.std.proofs.Common.{◌≡◌, inl, inr, ℕ, ℤ, pos, ◌*◌, ◌^◌, ◌<◌, ◌≤◌, ◌+ℤ◌, ◌-ℤ◌, ◌*ℤ◌, List, [], length, Option, Some, None, sym, ap, subst, arith, get_or, slice_get, option_map}
use Rattle.std.specs.Int.{int_max}
use Rattle.std.proofs.lemmas.Int.{ints, clamps}
use Rattle.std.proofs.lemmas.Option.{slice_get-get_or}
use Rattle.d_num.specs.Amount.{IsWithin, IsUpTo}
use Rattle.d_num.proofs.Products.{product_within}
use Rattle.d_num.proofs.Sums.{sum_same, sum_within}
use Rattle.d_tier.specs.Charges.{peak_charge}
use Rattle.d_tier.proofs.ChargeFacts.{charge_within}
use Rattle.d_box.specs.declared.space.Space.{Space}
use Rattle.d_box.specs.declared.slopes.Slopes.{Slopes}
use Rattle.d_box.specs.Boxes.{range_at}
use Rattle.d_box.specs.Candidates.{list_at}
use Rattle.d_box.specs.Splits.{no_peak}
use Rattle.d_bill.specs.Inputs.{Inputs, IsInRange, period_in, sell_at}
use Rattle.d_bill.specs.Flows.{flow_at, import_of, export_of}
use Rattle.d_bill.specs.Totals.{Tallied, values_of}
use Rattle.d_bill.specs.Bills.{demand_charge, group_charge}
use Rattle.d_bill.specs.Prices.{rate_of, step_cost}
use Rattle.d_bill.specs.Slopes.{rates_of}
use Rattle.d_bill.specs.Counting.{group_limit}
use Rattle.d_bill.proofs.Values.{values_read}
use Rattle.d_bill.proofs.ChargeFacts.{group_small, few_groups}
use Rattle.d_bill.proofs.BoundFacts.{groups_small}
use Rattle.d_bill.proofs.SizeFacts.{import_small, export_small}
use Rattle.d_bill.proofs.WalkFacts.{flow_small}
use Rattle.d_bound.specs.PlanWays.{AreRates, rated_cost}
use Rattle.d_bound.specs.Roots.{AreCandidates, IsDrawnRange, IsProblemBox}
use Rattle.d_bound.specs.Nodes.{box_schedule, low_charges, relaxed_by, relaxed_value}
use Rattle.d_bound.specs.BoxLaws.{IsUntiered, HasFloors, RelaxedAreSmall}
use Rattle.d_bound.proofs.RateFacts.{fair_of, rate_within, sell_within, rates_fair}
use Rattle.d_bound.proofs.CandidateFacts.{candidate_small}
use Rattle.d_bound.proofs.TrialFacts.{untiered_rates}
use Rattle.d_bound.proofs.BoxFacts.{untiered_relaxed}

-- what an interval costs
step_small : (i : Inputs) (rates : List ℤ) (s : List ℕ) (t : ℕ) → IsInRange i → AreRates rates → t < length i.net → IsWithin (12 * 10 ^ 30) (step_cost i rates t (flow_at i s t))
step_small i rates s t fine fair inside =
    let flow = flow_small i s t fine inside in
    difference (rate_of rates (period_in i t) *ℤ import_of (flow_at i s t)) (sell_at i t *ℤ export_of (flow_at i s t))
    (product_within (3 * 10 ^ 21) (2 * 10 ^ 9) (rate_of rates (period_in i t)) (import_of (flow_at i s t)) (rate_within rates (period_in i t) fair) (signed (import_of (flow_at i s t)) (import_small (flow_at i s t) flow)))
    (product_within (3 * 10 ^ 21) (2 * 10 ^ 9) (sell_at i t) (export_of (flow_at i s t)) (sell_within i (period_in i t) (fair_of i fine)) (signed (export_of (flow_at i s t)) (export_small (flow_at i s t) flow)))
  where
    signed : (z : ℤ) → IsUpTo (2 * 10 ^ 9) z → IsWithin (2 * 10 ^ 9) z
    signed z h = (omega (arith, ints, h.0), h.1)

    difference : (bought sold : ℤ) → IsWithin (3 * 10 ^ 21 * (2 * 10 ^ 9)) bought → IsWithin (3 * 10 ^ 21 * (2 * 10 ^ 9)) sold → IsWithin (12 * 10 ^ 30) (bought -ℤ sold)
    difference bought sold a b = (omega (arith, ints, a.0, a.1, b.0, b.1), omega (arith, ints, a.0, a.1, b.0, b.1))

-- what a month's energy costs, whatever the modes are
cost_small : (i : Inputs) (rates : List ℤ) (s : List ℕ) → IsInRange i → AreRates rates → IsWithin (2 * 10 ^ 35) (rated_cost i rates s)
cost_small i rates s fine fair =
    fits (length i.net) (rated_cost i rates s) fine.few_intervals
    (sum_within (12 * 10 ^ 30) (length i.net) (λ t. step_cost i rates t (flow_at i s t)) (λ t inside. step_small i rates s t fine fair inside))
  where
    fits : (n : ℕ) (z : ℤ) → n ≤ 8928 → IsWithin (12 * 10 ^ 30 * n) z → IsWithin (2 * 10 ^ 35) z
    fits n z few h = (omega (arith, ints, h.0), omega (arith, ints, h.1))

-- the low end of a range is a candidate or 0
low_small : (i : Inputs) (lists : List (List ℤ)) (space : Space) (group : ℕ) → IsInRange i → AreCandidates i lists → IsProblemBox lists space → group < length i.peaks
    → IsUpTo (8 * 10 ^ 9) (range_at space.peaks group).low
low_small i lists space group fine candidates box there = by_drawn (box.drawn group (omega (arith, candidates.long)))
  where
    by_drawn : IsDrawnRange (list_at lists group) (range_at space.peaks group) → IsUpTo (8 * 10 ^ 9) (range_at space.peaks group).low
    by_drawn (inl ends) = candidate_small i group (range_at space.peaks group).low fine (candidates.drawn group there (range_at space.peaks group).low ends.0)
    by_drawn (inr none) = rw none.0 (omega (arith, ints), omega (arith, ints))

-- what a group charges for a power keeps its limit
charge_small : (i : Inputs) (group : ℕ) (power : ℤ) → IsInRange i → HasFloors i → group < length i.peaks → IsUpTo (8 * 10 ^ 9) power → IsWithin (group_limit i group) (demand_charge (slice_get i.peaks group) power)
charge_small i group power fine floors there small =
    let peak = get_or i.peaks group no_peak in
    let is = slice_get-get_or i.peaks group no_peak there in
    let table = (fine.groups group no_peak there).table in
    rw is (group_small i group peak power (peak_charge peak power) fine there is small (floors group no_peak there)
    (λ m n prices below floor. charge_within m n peak.tiers (int_max power peak.floor) table.whole prices (greater n power peak.floor below floor)))
  where
    greater : (n : ℕ) (x y : ℤ) → IsUpTo n x → IsUpTo n y → IsUpTo n (int_max x y)
    greater n x y a b = (omega (arith, ints, clamps, a.0, b.0), omega (arith, ints, clamps, a.1, b.1))

-- what all groups charge at their low ends
pub charges_small : (i : Inputs) (lists : List (List ℤ)) (space : Space) → IsInRange i → HasFloors i → AreCandidates i lists → IsProblemBox lists space → IsWithin (4 * 10 ^ 34) (low_charges i space)
charges_small i lists space fine floors candidates box =
    rw (sum_same (length i.peaks) (λ group. demand_charge (slice_get i.peaks group) (range_at space.peaks group).low) (group_charge i lows) same)
    (groups_small i lows fine
    (λ group there. subst (λ (z : ℤ). IsWithin (group_limit i group) z) (same group there)
    (charge_small i group (range_at space.peaks group).low fine floors there (low_small i lists space group fine candidates box there))))
  where
    lows : Tallied
    lows = record { totals = []; credit = pos 0; peaks = values_of 37 (λ group. (range_at space.peaks group).low) }

    same : (group : ℕ) → group < length i.peaks → demand_charge (slice_get i.peaks group) (range_at space.peaks group).low ≡ group_charge i lows group
    same group there = ap (demand_charge (slice_get i.peaks group)) (sym (values_read 37 (λ k. (range_at space.peaks k).low) group (pos 0) (few_groups i group fine there)))

-- a relaxed value is at most 10^36 in size, where what the groups charge at their low ends is in range
pub value_small : (i : Inputs) (space : Space) (slopes : Slopes) (value : ℤ) → IsUntiered i → IsWithin (4 * 10 ^ 34) (low_charges i space) → relaxed_value i space slopes ≡ Some value
    → IsWithin (10 ^ 36) value
value_small i space slopes value untiered charges is = by_found (box_schedule i space slopes) is
  where
    parts : (fixed charges cost value : ℤ) → IsWithin (10 ^ 32) fixed → IsWithin (4 * 10 ^ 34) charges → IsWithin (2 * 10 ^ 35) cost → value ≡ (fixed +ℤ charges) +ℤ cost → IsWithin (10 ^ 36) value
    parts fixed charges cost value a b c e = (omega (arith, ints, a.0, b.0, c.0), omega (arith, ints, a.1, b.1, c.1))

    rates : AreRates (rates_of i slopes.rates)
    rates = subst (λ (l : List ℤ). AreRates l) (untiered_rates i [] slopes.rates untiered.none) (rates_fair i (fair_of i untiered.range))

    by_found : (found : Option (List ℕ)) → option_map (relaxed_by i space slopes) found ≡ Some value → IsWithin (10 ^ 36) value
    by_found None none = absurd (cc)
    by_found (Some s) here =
        let amount : relaxed_by i space slopes s ≡ value = cc in
        subst (λ (z : ℤ). IsWithin (10 ^ 36) z) amount
        (parts i.fixed (low_charges i space) (rated_cost i (rates_of i slopes.rates) s) (relaxed_by i space slopes s) untiered.range.fixed charges
        (cost_small i (rates_of i slopes.rates) s untiered.range rates) (untiered_relaxed i space slopes s untiered))

-- as it is in a box of the problem
pub relaxed_small : RelaxedAreSmall
relaxed_small i lists space slopes value untiered floors candidates box is =
    value_small i space slopes value untiered (charges_small i lists space untiered.range floors candidates box) is

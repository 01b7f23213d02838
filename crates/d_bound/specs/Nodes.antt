-- The bound of a box, which no bill of a schedule that the box holds goes below. All of it is our own rule.
use Rattle.std.specs.Prelude.{ℕ, zero, suc, ℤ, ◌+ℤ◌, ◌+◌, ◌*◌, Bool, true, false, List, [], Option, Some, None, length, map, slice_get, option_map, int_lt, if◌then◌else◌}
use Rattle.d_num.specs.Sums.{sum_of_first}
use Rattle.d_tier.specs.declared.tier.Tier.{Tier}
use Rattle.d_tier.specs.Gaps.{least_gap}
use Rattle.d_tariff.specs.declared.period.Period.{Period}
use Rattle.d_tariff.specs.Terms.{period_at}
use Rattle.d_box.specs.declared.space.Space.{Space}
use Rattle.d_box.specs.declared.slopes.Slopes.{Slopes}
use Rattle.d_box.specs.Boxes.{range_at}
use Rattle.d_box.specs.Splits.{tiers_at}
use Rattle.d_box.specs.Trials.{rate_at, trial_slope}
use Rattle.d_bill.specs.Inputs.{Inputs}
use Rattle.d_bill.specs.Totals.{values_of}
use Rattle.d_bill.specs.Bills.{demand_charge, raised, bill_of}
use Rattle.d_bill.specs.Slopes.{tiered, rates_of}
use Rattle.d_path.specs.Arcs.{Arcs}
use Rattle.d_bound.specs.declared.node.Node.{Node}
use Rattle.d_bound.specs.PlanWays.{plan_arcs, rated_cost}
use Rattle.d_bound.specs.Choice.{cheapest_of}
use Rattle.d_bound.specs.Caps.{is_capped}

-- the tiers of a period; none where it doesn't occur
abbrev pub tiers_in : Option Period → List Tier
tiers_in None = []
tiers_in (Some period) = period.tiers

-- the tables of the tiered periods, in their order
abbrev pub tiered_tables : Inputs → List (List Tier)
tiered_tables i = map (λ number. tiers_in (period_at i.energy number)) (tiered i)

-- the ways within the caps of a box, where energy is counted at slopes
abbrev pub box_arcs : Inputs → Space → Slopes → Arcs
box_arcs i space slopes = plan_arcs i (is_capped i space) (rates_of i slopes.rates)

-- the first cheapest schedule within the caps of a box, where energy is counted at slopes; none where no feasible schedule keeps the caps
abbrev pub box_schedule : Inputs → Space → Slopes → Option (List ℕ)
box_schedule i space slopes = cheapest_of (box_arcs i space slopes)

-- what a group charges at the low end of its range
abbrev pub low_charge : Inputs → Space → ℕ → ℤ
low_charge i space group = demand_charge (slice_get i.peaks group) (range_at space.peaks group).low

-- what all groups charge there
abbrev pub low_charges : Inputs → Space → ℤ
low_charges i space = sum_of_first (length i.peaks) (low_charge i space)

-- by how much the charges of the tiered periods are more than their imports at the slopes, at the least that their ranges allow
abbrev pub low_gaps : Inputs → Space → Slopes → ℤ
low_gaps i space slopes =
    sum_of_first (length (tiered i))
    (λ k. least_gap (tiers_at (tiered_tables i) k) (range_at space.totals k).low (range_at space.totals k).high (rate_at slopes k))

-- four parts: the fixed charge, the groups' charges at the low ends, the least gaps, and what a schedule's energy costs at the slopes
abbrev pub relaxed_by : Inputs → Space → Slopes → List ℕ → ℤ
relaxed_by i space slopes s =
    ((i.fixed +ℤ low_charges i space) +ℤ low_gaps i space slopes) +ℤ rated_cost i (rates_of i slopes.rates) s

-- the relaxed value of a box at slopes: these four parts of its first cheapest schedule; none where there is none
abbrev pub relaxed_value : Inputs → Space → Slopes → Option ℤ
relaxed_value i space slopes = option_map (relaxed_by i space slopes) (box_schedule i space slopes)

-- the slopes of a trial
abbrev pub trial_of : Inputs → Space → Option Slopes → ℕ → Slopes
trial_of i space parent number = record { rates = values_of 36 (trial_slope space (tiered_tables i) parent number) }

-- how many trials there are
abbrev pub trials_of : Inputs → ℕ
trials_of i = 2 + 8 * length (tiered i)

-- whether a value is above another; none is below every number
abbrev pub is_above : Option ℤ → Option ℤ → Bool
is_above None other = false
is_above (Some value) None = true
is_above (Some value) (Some other) = int_lt other value

-- of the first n values the place of the greatest, the first of equals; 0 where all are none
unfoldable pub first_greatest : (ℕ → Option ℤ) → ℕ → ℕ
first_greatest f zero = 0
first_greatest f (suc n) = let best = first_greatest f n in if is_above (f n) (f best) then n else best

-- the slopes of a box: those of the first trial whose relaxed value is the greatest
abbrev pub slopes_of : Inputs → Space → Option Slopes → Slopes
slopes_of i space parent =
    trial_of i space parent (first_greatest (λ number. relaxed_value i space (trial_of i space parent number)) (trials_of i))

-- the node of a box at slopes: its bound is the relaxed value, raised to the minimum where there is one, and its bill is that of its first
-- cheapest schedule
abbrev pub node_at : Inputs → Space → Slopes → Node
node_at i space slopes = record {
  bound = option_map (raised i.minimum) (relaxed_value i space slopes);
  slopes = slopes;
  bill = option_map (bill_of i) (box_schedule i space slopes);
}

-- the node of a box whose parent has these slopes; the root has no parent
abbrev pub node_of : Inputs → Space → Option Slopes → Node
node_of i space parent = node_at i space (slopes_of i space parent)

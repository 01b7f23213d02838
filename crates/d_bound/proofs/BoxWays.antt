-- The ways within the caps of a box, as the bounder makes and uses them.
use Rattle.std.proofs.Common.{◌≡◌, ℕ, ℤ, ◌^◌, ◌+ℤ◌, List, [], length, map, Option, Some, None, option_map, refl, sym, ap, ◌∙◌, subst}
use Rattle.d_num.specs.Amount.{IsWithin}
use Rattle.d_num.specs.declared.pot.Pot.{Pot}
use Rattle.d_num.specs.declared.pot.Pot.TheVariants.{To, NoWay}
use Rattle.d_num.specs.Pot.{IsPotWithin}
use Rattle.d_rows.specs.Days.{DayRows}
use Rattle.d_path.specs.declared.ways.Move.{Move}
use Rattle.d_path.specs.Arcs.{Arcs, intervals_of, way_cost, IsSound}
use Rattle.d_path.specs.Cheapest.{IsFirstCheapest}
use Rattle.d_path.specs.Days.{FitsDays, AreKeptCheapest, AreInnerCheapest}
use Rattle.d_path.proofs.DayLaws.{kept_stay}
use Rattle.d_path.proofs.WayLemmas.{way_small}
use Rattle.d_tier.specs.declared.tier.Tier.{Tier}
use Rattle.d_tariff.specs.Terms.{period_at}
use Rattle.d_box.specs.declared.space.Space.{Space}
use Rattle.d_box.specs.declared.slopes.Slopes.{Slopes}
use Rattle.d_box.specs.Trials.{trial_slope}
use Rattle.d_bill.specs.Inputs.{Inputs, IsInRange}
use Rattle.d_bill.specs.Schedules.{IsFeasible}
use Rattle.d_bill.specs.Bills.{bill_of, raised}
use Rattle.d_bill.specs.Slopes.{tiered, rates_of}
use Rattle.d_bill.specs.Totals.{values_of}
use Rattle.d_bound.specs.declared.bounder.Bounder.{Bounder}
use Rattle.d_bound.specs.declared.node.Node.{Node}
use Rattle.d_bound.specs.PlanWays.{plan_arcs, rated_cost, DrawsAllowed}
use Rattle.d_bound.specs.Caps.{is_capped}
use Rattle.d_bound.specs.Nodes.{box_arcs, box_schedule, low_charges, relaxed_by, relaxed_value, slopes_of, tiered_tables, tiers_in, node_at, node_of}
use Rattle.d_bound.specs.BoxLaws.{IsUntiered}
use Rattle.d_bound.specs.SlopeSteps.{untiered_slopes}
use Rattle.d_bound.specs.Bounders.{IsBounderOf, IsFilled, IsFirstOf, AreLayersOf, arcs_over, held_arcs, capped_costs}
use Rattle.d_bound.proofs.RateFacts.{fair_of, rates_fair}
use Rattle.d_bound.proofs.PlanArcs.{intervals_is, plan_sound}
use Rattle.d_bound.proofs.FeasibleWays.{feasible_cost, way_feasible}
use Rattle.d_bound.proofs.ChoiceFacts.{cheapest_found, cheapest_none}
use Rattle.d_bound.proofs.TrialFacts.{untiered_rates, first_trial}
use Rattle.d_bound.proofs.BoxFacts.{untiered_relaxed}
use Rattle.d_bound.proofs.WayFacts.{arcs_are}
use Rattle.d_bound.proofs.LayerFacts.{fits_ways, ways_fit}

-- the ways within the caps of a box, at the prices of the periods
abbrev pub capped_arcs : Inputs → Space → Arcs
capped_arcs i space = plan_arcs i (is_capped i space) (rates_of i [])

-- what the bounder makes of its costs and moves
pub ways_capped : (i : Inputs) (space : Space) (b : Bounder) (ways : Arcs) (costs : List Pot) (moves : List Move) → IsBounderOf i b → b.capped.items ≡ capped_costs i space
    → costs ≡ b.capped.items → moves ≡ b.moves.items → ways ≡ arcs_over b.levels costs moves → ways ≡ capped_arcs i space
ways_capped i space b ways costs moves bounder capped costs_are moves_are is =
    is ∙ arcs_are i (is_capped i space) (rates_of i []) b.levels costs moves bounder.levels (costs_are ∙ capped) (moves_are ∙ bounder.moves)

-- they are those of the box at any slopes, where no period is tiered
pub capped_box : (i : Inputs) (space : Space) (slopes : Slopes) → tiered i ≡ [] → capped_arcs i space ≡ box_arcs i space slopes
capped_box i space slopes none = ap (plan_arcs i (is_capped i space)) (untiered_rates i [] slopes.rates none)

module _ (i : Inputs) (space : Space) (ways : Arcs) (fine : IsInRange i) (is : ways ≡ capped_arcs i space) where
  pub capped_sound : IsSound ways
  capped_sound = subst (λ (a : Arcs). IsSound a) (sym is) (plan_sound i (is_capped i space) (rates_of i []) (fair_of i fine) (rates_fair i (fair_of i fine)))

  pub capped_fit : (r : DayRows) → AreLayersOf i r → FitsDays ways r
  capped_fit r fits = subst (λ (a : Arcs). FitsDays a r) (sym is) (fits_ways i (is_capped i space) (rates_of i []) r (fair_of i fine) fits)

  pub fit_capped : (r : DayRows) → FitsDays ways r → AreLayersOf i r
  fit_capped r fits = ways_fit i (is_capped i space) (rates_of i []) r (fair_of i fine) (subst (λ (a : Arcs). FitsDays a r) is fits)

  pub capped_long : intervals_of ways ≡ length i.net
  capped_long = ap (λ (a : Arcs). intervals_of a) is ∙ intervals_is i (is_capped i space) (rates_of i []) (fair_of i fine)

  -- the first cheapest way is a schedule
  pub capped_feasible : (least : ℤ) (s : List ℕ) → IsFirstOf ways least s → IsFeasible i s
  capped_feasible least s found = (way_feasible i (is_capped i space) (rates_of i []) (fair_of i fine) s (subst (λ (a : Arcs). IsFirstCheapest a 0 a.start s) is found.first).way).0

  -- and costs what its energy does
  pub capped_cost : (least : ℤ) (s : List ℕ) → IsFirstOf ways least s → least ≡ rated_cost i (rates_of i []) s
  capped_cost least s found = apart (found_cost ∙ feasible_cost i (is_capped i space) (rates_of i []) (fair_of i fine) s way.0 way.1)
    where
      way : IsFeasible i s × DrawsAllowed i (is_capped i space) s
      way = way_feasible i (is_capped i space) (rates_of i []) (fair_of i fine) s (subst (λ (a : Arcs). IsFirstCheapest a 0 a.start s) is found.first).way

      found_cost : To least ≡ way_cost (capped_arcs i space) 0 i.storage.start s
      found_cost = sym found.cost ∙ ap (λ (a : Arcs). way_cost a 0 a.start s) is

      apart : {x y : ℤ} → To x ≡ To y → x ≡ y
      apart e = cc

  pub capped_small : (least : ℤ) (s : List ℕ) → IsFirstOf ways least s → IsWithin (10 ^ 36) least
  capped_small least s found = subst (λ (p : Pot). IsPotWithin (10 ^ 36) p) found.cost (way_small ways 0 ways.start s capped_sound found.first.way)

  -- it is the schedule of the box
  pub schedule_found : (slopes : Slopes) (least : ℤ) (s : List ℕ) → tiered i ≡ [] → IsFirstOf ways least s → box_schedule i space slopes ≡ Some s
  schedule_found slopes least s none found =
      cheapest_found (box_arcs i space slopes) s (subst (λ (a : Arcs). IsFirstCheapest a 0 a.start s) (is ∙ capped_box i space slopes none) found.first)

  pub schedule_none : (slopes : Slopes) → tiered i ≡ [] → ((s : List ℕ) → way_cost ways 0 ways.start s ≡ NoWay) → box_schedule i space slopes ≡ None
  schedule_none slopes none nowhere =
      cheapest_none (box_arcs i space slopes) (λ s. ap (λ (a : Arcs). way_cost a 0 a.start s) (sym (is ∙ capped_box i space slopes none)) ∙ nowhere s)

-- the slopes of a box
pub slopes_first : (i : Inputs) (space : Space) (parent : Option Slopes) (slopes : Slopes) → IsUntiered i → slopes ≡ untiered_slopes space parent → slopes ≡ slopes_of i space parent
slopes_first i space parent slopes untiered is =
    let tables : [] ≡ tiered_tables i = sym (ap (map (λ number. tiers_in (period_at i.energy number))) untiered.none) in
    is ∙ ap (λ (energy : List (List Tier)). record { rates = values_of 36 (trial_slope space energy parent 0) }) tables ∙ sym (first_trial i space parent untiered)

-- a node of a box with a schedule
pub node_some : (i : Inputs) (space : Space) (parent : Option Slopes) (ways : Arcs) (slopes : Slopes) (least bound bill : ℤ) (s : List ℕ) → IsUntiered i → ways ≡ capped_arcs i space → slopes ≡ untiered_slopes space parent
    → IsFirstOf ways least s → bound ≡ raised i.minimum ((i.fixed +ℤ low_charges i space) +ℤ least) → bill ≡ bill_of i s
    → record { bound = Some bound; slopes = slopes; bill = Some bill } ≡ node_of i space parent
node_some i space parent ways slopes least bound bill s untiered is first found bound_is bill_is =
    let here = schedule_found i space ways untiered.range is slopes least s untiered.none found in
    let cost : least ≡ rated_cost i (rates_of i slopes.rates) s = capped_cost i space ways untiered.range is least s found ∙ ap (λ (r : List ℤ). rated_cost i r s) (untiered_rates i [] slopes.rates untiered.none) in
    let value : (i.fixed +ℤ low_charges i space) +ℤ least ≡ relaxed_by i space slopes s = ap (λ (z : ℤ). (i.fixed +ℤ low_charges i space) +ℤ z) cost ∙ sym (untiered_relaxed i space slopes s untiered) in
    made (Some bound) (option_map (raised i.minimum) (relaxed_value i space slopes)) (Some bill) (option_map (bill_of i) (box_schedule i space slopes))
    (ap (λ (z : ℤ). Some z) (bound_is ∙ ap (raised i.minimum) value) ∙ ap (λ (o : Option (List ℕ)). option_map (raised i.minimum) (option_map (relaxed_by i space slopes) o)) (sym here))
    (ap (λ (z : ℤ). Some z) bill_is ∙ ap (option_map (bill_of i)) (sym here))
    ∙ ap (node_at i space) (slopes_first i space parent slopes untiered first)
  where
    made : (bound value bill paid : Option ℤ) → bound ≡ value → bill ≡ paid → ◌≡◌ {A = Node} (record { bound = bound; slopes = slopes; bill = bill }) (record { bound = value; slopes = slopes; bill = paid })
    made bound value bill paid e f = rw (e, f) refl

-- a node of a box without one
pub node_none : (i : Inputs) (space : Space) (parent : Option Slopes) (ways : Arcs) (slopes : Slopes) → IsUntiered i → ways ≡ capped_arcs i space → slopes ≡ untiered_slopes space parent
    → ((s : List ℕ) → way_cost ways 0 ways.start s ≡ NoWay) → record { bound = None; slopes = slopes; bill = None } ≡ node_of i space parent
node_none i space parent ways slopes untiered is first nowhere =
    let none = schedule_none i space ways untiered.range is slopes untiered.none nowhere in
    made None (option_map (raised i.minimum) (relaxed_value i space slopes)) None (option_map (bill_of i) (box_schedule i space slopes))
    (ap (λ (o : Option (List ℕ)). option_map (raised i.minimum) (option_map (relaxed_by i space slopes) o)) (sym none))
    (ap (option_map (bill_of i)) (sym none))
    ∙ ap (node_at i space) (slopes_first i space parent slopes untiered first)
  where
    made : (bound value bill paid : Option ℤ) → bound ≡ value → bill ≡ paid → ◌≡◌ {A = Node} (record { bound = bound; slopes = slopes; bill = bill }) (record { bound = value; slopes = slopes; bill = paid })
    made bound value bill paid e f = rw (e, f) refl

-- the bounder with other rows in its layers
pub with_layers : (i : Inputs) (b : Bounder) (r : DayRows) (day : ℕ) → IsBounderOf i b → AreLayersOf i r → IsBounderOf i (record b { layers = r; day = day })
with_layers i b r day bounder fits = record {
  range = bounder.range;
  costs = bounder.costs;
  powers = bounder.powers;
  room = bounder.room;
  moves = bounder.moves;
  levels = bounder.levels;
  candidates = bounder.candidates;
  layers = fits;
}

-- the ways that it has at hand
pub held_capped : (i : Inputs) (space : Space) (b : Bounder) (r : DayRows) (day : ℕ) → IsBounderOf i b → b.capped.items ≡ capped_costs i space → held_arcs (record b { layers = r; day = day }) ≡ capped_arcs i space
held_capped i space b r day bounder capped = arcs_are i (is_capped i space) (rates_of i []) b.levels b.capped.items b.moves.items bounder.levels capped bounder.moves

-- layers that were filled by these ways
pub filled_by : (b : Bounder) (ways : Arcs) (before r : DayRows) → ways ≡ arcs_over b.levels b.capped.items b.moves.items → IsSound ways → FitsDays ways r → AreKeptCheapest ways before → r.kept ≡ before.kept
    → length r.window ≡ length before.window → AreInnerCheapest ways 0 r → IsFilled (record b { layers = r; day = 0 })
filled_by b ways before r is sound fits kept same long inner = record {
  sound = subst (λ (a : Arcs). IsSound a) is sound;
  fits = subst (λ (a : Arcs). FitsDays a r) is fits;
  day_there = fits.some_day;
  kept = subst (λ (a : Arcs). AreKeptCheapest a r) is (kept_stay ways before r kept same long);
  inner = subst (λ (a : Arcs). AreInnerCheapest a 0 r) is inner;
}

-- What a bounder keeps of its problem, and what its layers have after they were filled. Our own words; only calls of this crate cite the
-- parts.
use Rattle.std.specs.Prelude.{◌≡◌, ℕ, ◌+◌, ◌*◌, ◌/◌, ◌%◌, ◌<◌, ◌≤◌, ◌^◌, ℤ, pos, ◌≤ℤ◌, List, [], Option, Some, None, length, map, int_le, MatchOption}
use Rattle.std.specs.List.{range_with_len}
use Rattle.d_num.specs.declared.pot.Pot.{Pot}
use Rattle.d_num.specs.declared.pot.Pot.TheVariants.{To, NoWay}
use Rattle.d_rows.specs.Days.{DayRows}
use Rattle.d_path.specs.Arcs.{Arcs, way_cost, IsSound}
use Rattle.d_path.specs.Cheapest.{IsFirstCheapest}
use Rattle.d_path.specs.Days.{per_day_of, FitsDays, AreKeptCheapest, AreInnerCheapest}
use Rattle.d_box.specs.declared.space.Space.{Space}
use Rattle.d_bill.specs.declared.arc.Arc.{Arc}
use Rattle.d_bill.specs.Inputs.{Inputs, IsInRange}
use Rattle.d_bill.specs.Flows.{arc_of}
use Rattle.d_bill.specs.Slopes.{rates_of}
use Rattle.d_bound.specs.declared.bounder.Bounder.{Bounder}
use Rattle.d_bound.specs.declared.ways.Levels.{Levels}
use Rattle.d_path.specs.declared.ways.Move.{Move}
use Rattle.d_bound.specs.PlanWays.{all_powers, mode_costs, move_of, plan_arcs}
use Rattle.d_bound.specs.Caps.{is_capped}
use Rattle.d_bound.specs.Roots.{AreCandidates}

-- the power of an arc; 0 where there is none
abbrev pub power_in : Option Arc → ℤ
power_in None = pos 0
power_in (Some arc) = arc.power

-- the power at a place of the list that goes interval by interval
abbrev pub power_at_place : Inputs → ℕ → ℤ
power_at_place i place = power_in (arc_of i (place / length i.storage.modes) (place % length i.storage.modes))

-- the power of each mode in each interval, interval by interval
unfoldable pub mode_powers : Inputs → List ℤ
mode_powers i = map (power_at_place i) (range_with_len 0 (length i.net * length i.storage.modes))

-- what each mode costs in each interval, where every power may be drawn
abbrev pub free_costs : Inputs → List Pot
free_costs i = mode_costs i all_powers (rates_of i [])

-- what it costs within the caps of a box
abbrev pub capped_costs : Inputs → Space → List Pot
capped_costs i space = mode_costs i (is_capped i space) (rates_of i [])

-- layers for the days of a month and the levels of its battery
abbrev pub AreLayersOf : Inputs → DayRows → Type 0
AreLayersOf i r = FitsDays (plan_arcs i all_powers (rates_of i [])) r

-- the greatest power that is within the caps of an interval, of those up to 10^13 W
abbrev pub IsCapOf : Inputs → Space → ℕ → ℤ → Type 0
IsCapOf i space t cap = (power : ℤ) → power ≤ℤ pos (10 ^ 13) → int_le power cap ≡ is_capped i space t power

-- the levels of a battery: its least and its greatest, where it starts, and where it ends at least
abbrev pub levels_in : Inputs → Levels
levels_in i = record { floor = i.storage.floor; capacity = i.storage.capacity; start = i.storage.start; end = i.storage.end }

-- ways at these costs, by these moves, between these levels
abbrev pub arcs_over : Levels → List Pot → List Move → Arcs
arcs_over levels costs moves =
    record { costs = costs; moves = moves; floor = levels.floor; capacity = levels.capacity; start = levels.start; end = levels.end }

-- a bounder that was made of the problem
pub record IsBounderOf (i : Inputs) (b : Bounder) : Type 0 where
  pub range : IsInRange i
  pub costs : b.costs.items ≡ free_costs i
  pub powers : b.powers.items ≡ mode_powers i
  pub room : length b.capped.items ≡ length i.net * length i.storage.modes
  pub moves : b.moves.items ≡ map move_of i.storage.modes
  pub levels : b.levels ≡ levels_in i
  pub candidates : AreCandidates i b.candidates
  pub layers : AreLayersOf i b.layers

-- the ways that a bounder has at hand
abbrev pub held_arcs : Bounder → Arcs
held_arcs b = arcs_over b.levels b.capped.items b.moves.items

-- the first cheapest way and what it costs
pub record IsFirstOf (a : Arcs) (least : ℤ) (s : List ℕ) : Type 0 where
  pub first : IsFirstCheapest a 0 a.start s
  pub cost : way_cost a 0 a.start s ≡ To least

-- both are found, or None where there is no way, and then the schedule is as it was
abbrev pub IsFoundFirst : Arcs → List ℕ → List ℕ → Option ℤ → Type 0
IsFoundFirst a before after None = ((s : List ℕ) → way_cost a 0 a.start s ≡ NoWay) × (after ≡ before)
IsFoundFirst a before after (Some cost) = IsFirstOf a cost after

-- the schedule that a box has is written, or nothing is where it has none
abbrev pub IsWritten : Option (List ℕ) → List ℕ → List ℕ → Type 0
IsWritten found before after = MatchOption found (after ≡ before) (λ s. after ≡ s)

-- the window has the rows of the day of interval t; the last day's end is of that day
pub record IsAtDay (b : Bounder) (t : ℕ) : Type 0 where
  pub begun : b.day * per_day_of b.layers ≤ t
  pub ended : t ≤ (b.day + 1) * per_day_of b.layers

-- after they were filled the kept rows have the least costs at day ends, and the window those of its day
pub record IsFilled (b : Bounder) : Type 0 where
  pub sound : IsSound (held_arcs b)
  pub fits : FitsDays (held_arcs b) b.layers
  pub day_there : b.day + 1 < length b.layers.kept
  pub kept : AreKeptCheapest (held_arcs b) b.layers
  pub inner : AreInnerCheapest (held_arcs b) b.day b.layers

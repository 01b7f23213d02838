-- The ways of a problem: its modes as moves, and what the energy of each mode costs in each interval where every energy period has one
-- rate. Not every power may be drawn: `allows` says of each interval which. All of it is our own rule.
use Rattle.std.specs.Prelude.{◌≡◌, ℕ, ◌*◌, ◌^◌, ◌/◌, ◌%◌, ℤ, ◌*ℤ◌, ◌-ℤ◌, ◌≤ℤ◌, ◌<◌, Bool, true, List, Option, Some, None, All, length, map, if◌then◌else◌}
use Rattle.std.specs.List.{range_with_len}
use Rattle.d_num.specs.Amount.{IsWithin}
use Rattle.d_num.specs.declared.pot.Pot.{Pot}
use Rattle.d_num.specs.declared.pot.Pot.TheVariants.{To, NoWay}
use Rattle.d_bill.specs.declared.arc.Arc.{Arc}
use Rattle.d_batt.specs.declared.mode.Mode.{Mode}
use Rattle.d_list.specs.Order.{IsNotAfter}
use Rattle.d_bill.specs.Inputs.{Inputs, period_in, sell_at}
use Rattle.d_bill.specs.Flows.{arc_of, flow_at, power_of}
use Rattle.d_bill.specs.Prices.{rate_of, cost_of_flow}
use Rattle.d_path.specs.declared.ways.Move.{Move}
use Rattle.d_bill.specs.Schedules.{IsFeasible}
use Rattle.d_path.specs.Arcs.{Arcs}

-- every power
abbrev pub all_powers : ℕ → ℤ → Bool
all_powers t power = true

-- what an interval's import costs at the rate of its period, less what its export is paid; no way where nothing is permitted, or where the
-- power may not be drawn
abbrev pub priced : Inputs → (ℕ → ℤ → Bool) → List ℤ → ℕ → Option Arc → Pot
priced i allows rates t None = NoWay
priced i allows rates t (Some arc) =
    if allows t arc.power then To (rate_of rates (period_in i t) *ℤ arc.import -ℤ sell_at i t *ℤ arc.export) else NoWay

-- what the mode of this number costs in interval t; no way where there is no such mode, it isn't permitted or its power may not be drawn
abbrev pub mode_cost : Inputs → (ℕ → ℤ → Bool) → List ℤ → ℕ → ℕ → Pot
mode_cost i allows rates t number = priced i allows rates t (arc_of i t number)

-- the cost at a place of the list that goes interval by interval
abbrev pub cost_at : Inputs → (ℕ → ℤ → Bool) → List ℤ → ℕ → Pot
cost_at i allows rates place = mode_cost i allows rates (place / length i.storage.modes) (place % length i.storage.modes)

-- what each mode costs in each interval, interval by interval
unfoldable pub mode_costs : Inputs → (ℕ → ℤ → Bool) → List ℤ → List Pot
mode_costs i allows rates = map (cost_at i allows rates) (range_with_len 0 (length i.net * length i.storage.modes))

-- how a mode moves the level
abbrev pub move_of : Mode → Move
move_of mode = record { change = mode.change; low = mode.low; high = mode.high }

-- the moves and their costs, the levels of the battery, where it starts and the least level at its end
abbrev pub plan_arcs : Inputs → (ℕ → ℤ → Bool) → List ℤ → Arcs
plan_arcs i allows rates = record {
  costs = mode_costs i allows rates;
  moves = map move_of i.storage.modes;
  floor = i.storage.floor;
  capacity = i.storage.capacity;
  start = i.storage.start;
  end = i.storage.end;
}

-- what a schedule's energy costs at these rates
abbrev pub rated_cost : Inputs → List ℤ → List ℕ → ℤ
rated_cost i rates s = cost_of_flow i rates (flow_at i s)

-- the even power of an interval in a schedule, in W
abbrev pub power_at : Inputs → List ℕ → ℕ → ℤ
power_at i s t = power_of i.minutes (flow_at i s t)

-- each of the schedule's powers may be drawn
abbrev pub DrawsAllowed : Inputs → (ℕ → ℤ → Bool) → List ℕ → Type 0
DrawsAllowed i allows s = (t : ℕ) → t < length i.net → allows t (power_at i s t) ≡ true

-- the first of the feasible schedules that cost least among those whose powers may be drawn, in the order of lists of mode numbers
pub record IsFirstDrawn (i : Inputs) (allows : ℕ → ℤ → Bool) (cost : List ℕ → ℤ) (s : List ℕ) : Type 0 where
  pub feasible : IsFeasible i s
  pub draws : DrawsAllowed i allows s
  pub least : (z : List ℕ) → IsFeasible i z → DrawsAllowed i allows z → cost s ≤ℤ cost z
  pub first : (z : List ℕ) → IsFeasible i z → DrawsAllowed i allows z → cost z ≡ cost s → IsNotAfter s z

-- a rate for each period, at most 3000 USD per kWh in size
abbrev pub AreRates : List ℤ → Type 0
AreRates rates = All (IsWithin (3 * 10 ^ 21)) rates

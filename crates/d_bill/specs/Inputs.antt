-- What a plan is made for, as plain values: lists with an entry an interval, and what stands once a month.
use Rattle.std.specs.Prelude.{◌≡◌, ℕ, ℤ, pos, ◌+◌, ◌*◌, ◌^◌, ◌≤◌, ◌<◌, Bool, true, ◌==◌, ◌&&◌, nat_lt, List, Option, Some, None, IsSome, length, All, slice_index, slice_get, option_map, unwrap_or}
use Rattle.std.specs.Option.{ForSome}
use Rattle.std.specs.List.{Contains}
use Rattle.jiff_core.specs.Calendar.{days_in_month}
use Rattle.d_num.specs.Amount.{IsWithin, IsUpTo, IsReadingLength}
use Rattle.d_tier.specs.declared.peak.Peak.{Peak}
use Rattle.d_tier.specs.Tables.{IsTierTable}
use Rattle.d_tariff.specs.declared.period.Period.{Period}
use Rattle.d_tariff.specs.Terms.{period_at}
use Rattle.d_cal.specs.Calendar.{IsMonth}
use Rattle.d_batt.specs.Storage.{Storage, IsStorage}

-- a month, its net readings, the terms that hold in it, and the battery
pub record Inputs : Type 0 where
  pub year : ℤ
  pub number : ℕ
  pub minutes : ℕ
  -- the net reading of each interval in Wh
  pub net : List ℤ
  -- the energy period of each interval
  pub periods : List ℕ
  -- the demand period of each interval
  pub demands : List ℕ
  -- the energy periods by number, from 0; None where no interval is in the period
  pub energy : List (Option Period)
  -- the demand periods that charge something, rising
  pub demand_groups : List ℕ
  -- what each group of intervals is charged for its highest demand: a group for each of these demand periods, and behind them the flat
  -- group, which holds the whole month, where flat demand is charged
  pub peaks : List Peak
  -- what is charged whatever is used, in 10^-21 USD
  pub fixed : ℤ
  -- what the bill is at least, in 10^-21 USD; None where there is no minimum
  pub minimum : Option ℤ
  pub storage : Storage

-- the energy period of an interval
abbrev pub period_in : Inputs → ℕ → ℕ
period_in i t = slice_index i.periods t

-- what is paid for a Wh of export in a period; 0 where there is no such period
abbrev pub sell_of : List (Option Period) → ℕ → ℤ
sell_of energy number = unwrap_or (option_map (λ (period : Period). period.sell) (period_at energy number)) (pos 0)

-- what is paid for a Wh of export in an interval
abbrev pub sell_at : Inputs → ℕ → ℤ
sell_at i t = sell_of i.energy (period_in i t)

-- a group that stands for a demand period holds the intervals of that demand period, and the flat group holds all
abbrev pub is_held : Option ℕ → ℕ → Bool
is_held None demand = true
is_held (Some group) demand = group == demand

-- whether the interval is in the group of that number
abbrev pub is_in_group : Inputs → ℕ → ℕ → Bool
is_in_group i t group = nat_lt group (length i.peaks) && is_held (slice_get i.demand_groups group) (slice_index i.demands t)

-- an energy period's prices, of any tier and for export, are at most 3000 USD per kWh in size
pub record HasPrices (period : Period) : Type 0 where
  pub table : IsTierTable period.tiers
  pub tiers : All (λ tier. IsWithin (3 * 10 ^ 21) tier.price) period.tiers
  pub sell : IsWithin (3 * 10 ^ 21) period.sell

-- a group's prices are from 0 to 3000 USD per kW
pub record HasPeakPrices (peak : Peak) : Type 0 where
  pub table : IsTierTable peak.tiers
  pub tiers : All (λ tier. IsUpTo (3 * 10 ^ 21) tier.price) peak.tiers

-- what every problem keeps. The limits are our own; they leave room for intervals of 5 minutes
pub record IsInRange (i : Inputs) : Type 0 where
  -- the readings are those of a whole month
  pub month : IsMonth i.year i.number
  pub minutes : IsReadingLength i.minutes
  pub whole : length i.net * i.minutes ≡ days_in_month i.year i.number * 1440
  pub some_interval : 1 ≤ length i.net
  pub few_intervals : length i.net ≤ 8928
  pub net : All (IsWithin (10 ^ 9)) i.net
  -- each interval has an energy period and a demand period from 0 to 35
  pub periods_long : length i.periods ≡ length i.net
  pub periods : All (λ number. number < 36) i.periods
  pub demands_long : length i.demands ≡ length i.net
  pub demands : All (λ number. number < 36) i.demands
  -- of the 36 energy periods exactly those that an interval is in are there
  pub entries : length i.energy ≡ 36
  pub there : All (λ number. IsSome (period_at i.energy number)) i.periods
  pub occurs : (number : ℕ) → IsSome (period_at i.energy number) → Contains i.periods number
  pub energy : All (λ period. ForSome period HasPrices) i.energy
  -- there is a group for each demand period that charges something, and the flat group perhaps, to which alone a ratchet applies
  pub few_demand_groups : length i.demand_groups ≤ 36
  pub demand_groups : length i.demand_groups ≤ length i.peaks
  pub flat_group : length i.peaks ≤ length i.demand_groups + 1
  pub groups : All HasPeakPrices i.peaks
  pub floors : (group : ℕ) → group < length i.demand_groups → ForSome (slice_get i.peaks group) (λ peak. peak.floor ≡ pos 0)
  -- charges are at most 10^11 USD in size
  pub fixed : IsWithin (10 ^ 32) i.fixed
  pub minimum : ForSome i.minimum (IsWithin (10 ^ 32))
  pub storage : IsStorage i.storage

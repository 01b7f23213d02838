-- A tariff's terms as plain values, and what all valid ones keep. The fields are those of a record of the Utility Rate Database; the
-- limits are our own.
use Rattle.std.specs.Prelude.{◌≡◌, ◌≢◌, ◌≤◌, ◌<◌, ◌-◌, ◌*◌, ◌^◌, ℕ, ℤ, Bool, List, Option, None, IsSome, All, length, slice_index, slice_index_or}
use Rattle.std.specs.Option.{ForSome}
use Rattle.d_num.specs.Amount.{IsWithin, IsUpTo}
use Rattle.d_cal.specs.Schedules.{HasPeriods, entry_at, period_of}
use Rattle.d_tier.specs.declared.tier.Tier.{Tier}
use Rattle.d_tier.specs.Tables.{IsTierTable}
use Rattle.d_tariff.specs.declared.period.Period.{Period}
use Rattle.d_tariff.specs.declared.charge.Charge.{Charge}
use Rattle.d_tariff.specs.declared.charge.ChargeUnit.TheVariants.{Year}

-- what a tariff says. Periods stand at their numbers, from 0. A grid of hours has a row a month, January first, with a period for
-- each hour from midnight on. `ratchet` has for each month a fraction in units of 10^-20. `ignored` are the positions of the
-- record's columns that nothing is read from.
pub record Terms : Type 0 where
  pub energy : List (Option Period)
  pub demand : List (Option (List Tier))
  pub flat : List (Option (List Tier))
  pub energy_weekday : List (List ℕ)
  pub energy_weekend : List (List ℕ)
  pub demand_weekday : List (List ℕ)
  pub demand_weekend : List (List ℕ)
  pub flat_months : List ℕ
  pub ratchet : List ℕ
  pub fixed : Charge
  pub minimum : Option Charge
  pub hourly : Bool
  pub ignored : List ℕ

-- the period of that number; None where there is none
abbrev pub period_at : List (Option Period) → ℕ → Option Period
period_at periods number = slice_index_or periods number None

-- the tiers of the demand period of that number; None where it has none
abbrev pub tiers_at : List (Option (List Tier)) → ℕ → Option (List Tier)
tiers_at lists number = slice_index_or lists number None

-- the energy period in an hour, from 0, of a day of a month, each from 1
abbrev pub energy_at : Terms → ℤ → ℕ → ℕ → ℕ → Option Period
energy_at terms year month day hour = period_at terms.energy (period_of terms.energy_weekday terms.energy_weekend year month day hour)

-- the tiers of a month's flat demand period, months counted from 1; None where it has none
abbrev pub flat_tiers_in : Terms → ℕ → Option (List Tier)
flat_tiers_in terms month = tiers_at terms.flat (slice_index terms.flat_months (month - 1))

-- in each hour, from 0, of each month, from 1, the grid has a period that is there
abbrev pub HasEach : List (Option Period) → List (List ℕ) → Type 0
HasEach periods grid =
    (month hour : ℕ) → 1 ≤ month → month ≤ 12 → hour < 24 → IsSome (period_at periods (entry_at grid month hour))

-- an energy period's prices, of any tier and for energy sent out, are at most 2000 USD per kWh in size
pub record HasEnergyPrices (period : Period) : Type 0 where
  pub tiers : All (λ tier. IsWithin (2 * 10 ^ 21) tier.price) period.tiers
  pub sell : IsWithin (2 * 10 ^ 21) period.sell

-- a demand period's prices are from 0 to 2000 USD per kW
abbrev pub HasDemandPrices : List Tier → Type 0
HasDemandPrices tiers = All (λ tier. IsUpTo (2 * 10 ^ 21) tier.price) tiers

-- a charge is at most 10^9 USD in size
abbrev pub IsCharge : Charge → Type 0
IsCharge charge = IsWithin (10 ^ 30) charge.amount

-- a minimum is a charge by day or month: one by year isn't settled within a month
pub record IsMinimum (charge : Charge) : Type 0 where
  pub size : IsCharge charge
  pub unit : charge.unit ≢ Year

-- what every tariff keeps
pub record IsTariff (terms : Terms) : Type 0 where
  -- there is an entry for each of the periods 0 to 35
  pub energy_entries : length terms.energy ≡ 36
  pub demand_entries : length terms.demand ≡ 36
  pub flat_entries : length terms.flat ≡ 36
  -- each hour of a weekday and of a day on the weekend has an energy period that is there
  pub weekday : HasEach terms.energy terms.energy_weekday
  pub weekend : HasEach terms.energy terms.energy_weekend
  -- each month has a flat demand period from 0 to 35
  pub flat_months : All (λ number. number ≤ 35) terms.flat_months
  -- each month's fraction is at most 1
  pub ratchet : All (λ fraction. fraction ≤ 10 ^ 20) terms.ratchet
  -- prices are in range
  pub energy_prices : All (λ period. ForSome period HasEnergyPrices) terms.energy
  pub demand_prices : All (λ tiers. ForSome tiers HasDemandPrices) terms.demand
  pub flat_prices : All (λ tiers. ForSome tiers HasDemandPrices) terms.flat
  -- charges are in range
  pub fixed : IsCharge terms.fixed
  pub minimum : ForSome terms.minimum IsMinimum

-- twelve months of 24 hours, each in one of the periods 0 to 35
pub record IsHourGrid (grid : List (List ℕ)) : Type 0 where
  pub months : length grid ≡ 12
  pub hours : All (λ month. length month ≡ 24) grid
  pub periods : HasPeriods grid

-- the four schedules are such grids, and the lists of months have twelve entries
pub record HasGrids (terms : Terms) : Type 0 where
  pub energy_weekday : IsHourGrid terms.energy_weekday
  pub energy_weekend : IsHourGrid terms.energy_weekend
  pub demand_weekday : IsHourGrid terms.demand_weekday
  pub demand_weekend : IsHourGrid terms.demand_weekend
  pub flat_months : length terms.flat_months ≡ 12
  pub ratchet : length terms.ratchet ≡ 12

-- the tiers of an energy period are a table
abbrev pub HasTable : Period → Type 0
HasTable period = IsTierTable period.tiers

-- so are those of each period that is there, of energy, demand and flat demand
pub record HasTables (terms : Terms) : Type 0 where
  pub energy : All (λ period. ForSome period HasTable) terms.energy
  pub demand : All (λ tiers. ForSome tiers IsTierTable) terms.demand
  pub flat : All (λ tiers. ForSome tiers IsTierTable) terms.flat

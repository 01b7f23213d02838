-- The problem that is joined of valid terms, readings, battery and earlier peak is in range.
use Rattle.std.proofs.Common.{◌≡◌, ℕ, ℤ, pos, ◌*◌, ◌^◌, ◌/◌, ◌%◌, ◌-◌, ◌<◌, ◌≤◌, ◌&&◌, Bool, true, false, if◌then◌else◌, List, [], Option, None, Some, IfSome, option_map, map, length, All, arith, refl}
use Rattle.std.specs.Option.{ForSome, option_to_list}
use Rattle.std.specs.List.{filter, range_with_len}
use Rattle.std.proofs.lemmas.Int.{ints}
use Rattle.std.proofs.lemmas.List.Elements.{All-append, All-cons, All-get_or, All-map, filter_passes}
use Rattle.d_num.specs.Amount.{IsWithin, IsUpTo}
use Rattle.d_cal.specs.Calendar.{IsMonth, is_weekend}
use Rattle.d_cal.specs.Schedules.{ArePeriods, entry_at}
use Rattle.d_tier.specs.declared.tier.Tier.{Tier}
use Rattle.d_tier.specs.Tables.{IsTierTable}
use Rattle.d_tariff.specs.declared.charge.Charge.{Charge}
use Rattle.d_tariff.specs.declared.period.Period.{Period}
use Rattle.d_tariff.specs.Months.{fixed_of, minimum_of, floor_of, month_charge, is_charged}
use Rattle.d_tariff.specs.Terms.{Terms, IsTariff, IsMinimum, IsHourGrid, HasTable, HasTables, HasEnergyPrices, HasDemandPrices, period_at, tiers_at, flat_tiers_in}
use Rattle.d_tariff.proofs.EntryFacts.{entry_keeps}
use Rattle.d_tariff.proofs.MonthFacts.{month_within}
use Rattle.d_cal.specs.Starts.{start_minute}
use Rattle.d_bill.specs.Inputs.{HasPrices, HasPeakPrices}
use Rattle.d_meter.specs.Meters.{Metered}
use Rattle.d_bill.specs.Join.{interval_period, interval_periods, occurs, occurring, occurring_periods, has_group, demand_groups, peak_of, demand_peak, flat_peak}
use Rattle.d_bill.specs.Law.{JoinsInRange}
use Rattle.d_bill.proofs.JoinRange.{joined_fits}

-- an hour of a grid has a period from 0 to 35
entry_below : (grid : List (List ℕ)) (number hour : ℕ) → IsHourGrid grid → 1 ≤ number → number ≤ 12 → hour < 24 → entry_at grid number hour < 36
entry_below grid number hour is first last within =
    let there : number - 1 < length grid = omega (arith, is.months) in
    let long = All-get_or (λ (row : List ℕ). length row ≡ 24) grid (number - 1) [] there is.hours in
    let low = All-get_or ArePeriods grid (number - 1) [] there is.periods in
    let below = All-get_or (λ (period : ℕ). period ≤ 35) _ hour 0 (omega (arith, long)) low in
    omega (arith, below)

-- so has each interval of a month
periods_below : (weekday weekend : List (List ℕ)) (m : Metered) → IsHourGrid weekday → IsHourGrid weekend → IsMonth m.year m.number
    → All (λ number. number < 36) (interval_periods weekday weekend m)
periods_below weekday weekend m on_weekdays on_weekends month =
    All-map (λ (number : ℕ). number < 36) (interval_period weekday weekend m) (range_with_len 0 (length m.net)) (λ k d inside. by_day _ (is_weekend m.year m.number _))
  where
    hour : (n : ℕ) → n % 1440 / 60 < 24
    hour n = omega arith

    by_day : (t : ℕ) (b : Bool)
        → (if b then entry_at weekend m.number (start_minute m.minutes t / 60) else entry_at weekday m.number (start_minute m.minutes t / 60)) < 36
    by_day t true = entry_below weekend m.number _ on_weekends month.from_january month.to_december (hour (t * m.minutes))
    by_day t false = entry_below weekday m.number _ on_weekdays month.from_january month.to_december (hour (t * m.minutes))

-- prices that are in a tariff's range are in a problem's
within_wider : (z : ℤ) → IsWithin (2 * 10 ^ 21) z → IsWithin (3 * 10 ^ 21) z
within_wider z h = (omega (arith, ints, h.0), omega (arith, ints, h.1))

up_to_wider : (z : ℤ) → IsUpTo (2 * 10 ^ 21) z → IsUpTo (3 * 10 ^ 21) z
up_to_wider z h = (h.0, omega (arith, ints, h.1))

energy_prices : (period : Period) → HasTable period → HasEnergyPrices period → HasPrices period
energy_prices period table prices = record {
  table = table;
  tiers = λ k d inside. within_wider _ (prices.tiers k d inside);
  sell = within_wider _ prices.sell;
}

-- those of the energy periods that occur
occurring_prices : (terms : Terms) (periods : List ℕ) → IsTariff terms → HasTables terms → All (λ period. ForSome period HasPrices) (occurring_periods terms periods)
unfolding occurring_periods
occurring_prices terms periods valid tables =
    All-map (λ (period : Option Period). ForSome period HasPrices) (occurring terms periods) (range_with_len 0 36) (λ k d inside. by_test _ (occurs periods _))
  where
    each : All (λ period. ForSome period HasPrices) terms.energy
    each k d inside period is = energy_prices period (tables.energy k d inside period is) (valid.energy_prices k d inside period is)

    by_test : (number : ℕ) (b : Bool) → ForSome (if b then period_at terms.energy number else None) HasPrices
    by_test number true = entry_keeps HasPrices terms.energy number each
    by_test number false = λ period is. absurd (cc)

-- those of tiers of demand that charge something
charged_prices : (tiers : Option (List Tier)) (floor : ℤ) → ForSome tiers IsTierTable → ForSome tiers HasDemandPrices → is_charged tiers ≡ true → HasPeakPrices (peak_of tiers floor)
charged_prices None floor tables prices charged = absurd (cc)
charged_prices (Some tiers) floor tables prices charged = record {
  table = tables tiers refl;
  tiers = λ k d inside. up_to_wider _ (prices tiers refl k d inside);
}

-- those of the groups of demand periods
demand_peaks : (terms : Terms) (demands : List ℕ) → IsTariff terms → HasTables terms → All HasPeakPrices (map (demand_peak terms) (demand_groups terms demands))
unfolding demand_groups
demand_peaks terms demands valid tables =
    All-map HasPeakPrices (demand_peak terms) (filter (has_group terms demands) (range_with_len 0 36)) (λ k d inside. each _ (filter_passes (has_group terms demands) (range_with_len 0 36) k d inside))
  where
    charged : (one other : Bool) → (one && other) ≡ true → other ≡ true
    charged true other both = both
    charged false other both = absurd (cc)

    each : (number : ℕ) → has_group terms demands number ≡ true → HasPeakPrices (demand_peak terms number)
    each number has =
        charged_prices (tiers_at terms.demand number) (pos 0)
        (entry_keeps IsTierTable terms.demand number tables.demand)
        (entry_keeps HasDemandPrices terms.demand number valid.demand_prices)
        (charged (occurs demands number) _ has)

-- and of the flat group
flat_peaks : (terms : Terms) (number : ℕ) (prior : ℤ) → IsTariff terms → HasTables terms → All HasPeakPrices (option_to_list (flat_peak terms number prior))
flat_peaks terms number prior valid tables = by_test (is_charged (flat_tiers_in terms number)) refl
  where
    by_test : (b : Bool) → is_charged (flat_tiers_in terms number) ≡ b
        → All HasPeakPrices (option_to_list (if b then Some (peak_of (flat_tiers_in terms number) (floor_of terms number prior)) else None))
    by_test true charged =
        All-cons HasPeakPrices _ []
        (charged_prices (flat_tiers_in terms number) _ (entry_keeps IsTierTable terms.flat _ tables.flat) (entry_keeps HasDemandPrices terms.flat _ valid.flat_prices) charged)
        (λ k d below. absurd (omega arith))
    by_test false charged = λ k d below. absurd (omega arith)

-- a month's least bill
minimum_small : (minimum : Option Charge) (year : ℤ) (number : ℕ) → ForSome minimum IsMinimum
    → IfSome (option_map (λ (charge : Charge). month_charge charge year number) minimum) (IsWithin (31 * 10 ^ 30))
minimum_small None year number is = tt
minimum_small (Some charge) year number is = month_within charge.unit charge.amount year number (is charge refl).size

pub joins_in_range : JoinsInRange
joins_in_range terms m storage prior valid tables grids month readings battery =
    joined_fits terms m prior (fixed_of terms m.year m.number) (minimum_of terms m.year m.number) m.net _ _ _ _ _ storage valid month readings
    refl
    refl (periods_below terms.energy_weekday terms.energy_weekend m grids.energy_weekday grids.energy_weekend month)
    refl (periods_below terms.demand_weekday terms.demand_weekend m grids.demand_weekday grids.demand_weekend month)
    refl (occurring_prices terms (interval_periods terms.energy_weekday terms.energy_weekend m) valid tables)
    refl refl
    (All-append HasPeakPrices (map (demand_peak terms) _) (option_to_list (flat_peak terms m.number prior))
    (demand_peaks terms (interval_periods terms.demand_weekday terms.demand_weekend m) valid tables)
    (flat_peaks terms m.number prior valid tables))
    (month_within terms.fixed.unit terms.fixed.amount m.year m.number valid.fixed)
    (minimum_small terms.minimum m.year m.number valid.minimum)
    battery

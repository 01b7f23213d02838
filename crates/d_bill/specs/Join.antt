-- How the problem of a month is joined from a tariff's terms, the month's readings, a battery and an earlier peak.
use Rattle.std.specs.Prelude.{◌≡◌, ℕ, ℤ, pos, ◌/◌, Bool, true, ◌==◌, ◌&&◌, List, [], ◌++◌, Option, None, Some, unwrap_or, map, length, if◌then◌else◌}
use Rattle.std.specs.List.{filter, list_any, range_with_len}
use Rattle.std.specs.Option.{option_to_list}
use Rattle.d_cal.specs.Schedules.{period_of}
use Rattle.d_tier.specs.declared.peak.Peak.{Peak}
use Rattle.d_tier.specs.declared.tier.Tier.{Tier}
use Rattle.d_tariff.specs.declared.period.Period.{Period}
use Rattle.d_tariff.specs.Terms.{Terms, period_at, tiers_at, flat_tiers_in}
use Rattle.d_tariff.specs.Months.{fixed_of, minimum_of, floor_of, is_charged}
use Rattle.d_meter.specs.Meters.{Metered}
use Rattle.d_cal.specs.Starts.{start_day, start_minute}
use Rattle.d_batt.specs.Storage.{Storage}
use Rattle.d_bill.specs.Inputs.{Inputs}

-- energy is settled hour by hour only where there is a reading an hour
abbrev pub IsSettled : Terms → Metered → Type 0
IsSettled terms metered = terms.hourly ≡ true → metered.minutes ≡ 60

-- the period of an interval by a grid for weekdays and one for weekends: that of the hour of the day in which the interval starts
abbrev pub interval_period : List (List ℕ) → List (List ℕ) → Metered → ℕ → ℕ
interval_period weekday weekend metered t =
    period_of weekday weekend metered.year metered.number (start_day metered.minutes t) (start_minute metered.minutes t / 60)

-- the periods of all intervals, in order
abbrev pub interval_periods : List (List ℕ) → List (List ℕ) → Metered → List ℕ
interval_periods weekday weekend metered = map (interval_period weekday weekend metered) (range_with_len 0 (length metered.net))

-- whether some interval is in a period
abbrev pub occurs : List ℕ → ℕ → Bool
occurs periods number = list_any (λ other. other == number) periods

-- an energy period that some interval is in; None where none is
abbrev pub occurring : Terms → List ℕ → ℕ → Option Period
occurring terms periods number = if occurs periods number then period_at terms.energy number else None

-- the energy periods that occur, by number from 0
unfoldable pub occurring_periods : Terms → List ℕ → List (Option Period)
occurring_periods terms periods = map (occurring terms periods) (range_with_len 0 36)

-- a demand period has a group where some interval is in it and its tiers charge something
abbrev pub has_group : Terms → List ℕ → ℕ → Bool
has_group terms demands number = occurs demands number && is_charged (tiers_at terms.demand number)

-- the demand periods that have a group, rising
unfoldable pub demand_groups : Terms → List ℕ → List ℕ
demand_groups terms demands = filter (has_group terms demands) (range_with_len 0 36)

-- tiers of demand and the power that they charge for at least
abbrev pub peak_of : Option (List Tier) → ℤ → Peak
peak_of tiers floor = record { tiers = unwrap_or tiers []; floor = floor }

-- a demand period's group has no floor: a ratchet is the flat group's alone
abbrev pub demand_peak : Terms → ℕ → Peak
demand_peak terms number = peak_of (tiers_at terms.demand number) (pos 0)

-- the flat group: its floor is the month's fraction of the earlier peak; None where flat demand charges nothing in the month
abbrev pub flat_peak : Terms → ℕ → ℤ → Option Peak
flat_peak terms number prior =
    if is_charged (flat_tiers_in terms number) then Some (peak_of (flat_tiers_in terms number) (floor_of terms number prior)) else None

-- all groups: those of demand periods in order, and behind them the flat group
abbrev pub joined_peaks : Terms → ℕ → List ℕ → ℤ → List Peak
joined_peaks terms number groups prior = map (demand_peak terms) groups ++ option_to_list (flat_peak terms number prior)

-- the problem where the intervals are in these periods of energy and of demand
abbrev pub joined_in : Terms → Metered → Storage → ℤ → List ℕ → List ℕ → Inputs
joined_in terms metered storage prior periods demands = record {
  year = metered.year;
  number = metered.number;
  minutes = metered.minutes;
  net = metered.net;
  periods = periods;
  demands = demands;
  energy = occurring_periods terms periods;
  demand_groups = demand_groups terms demands;
  peaks = joined_peaks terms metered.number (demand_groups terms demands) prior;
  fixed = fixed_of terms metered.year metered.number;
  minimum = minimum_of terms metered.year metered.number;
  storage = storage;
}

-- the problem of a tariff, readings, a battery and an earlier peak in W
abbrev pub join_of : Terms → Metered → Storage → ℤ → Inputs
join_of terms metered storage prior =
    joined_in terms metered storage prior
    (interval_periods terms.energy_weekday terms.energy_weekend metered)
    (interval_periods terms.demand_weekday terms.demand_weekend metered)

-- The terms of a row that isn't refused.
use Rattle.std.proofs.Common.{◌≡◌, ℕ, ◌-◌, ◌<◌, ◌≤◌, Bool, true, List, [], length, All, Option, None, IsSome, Result, Ok, Err, refl, sym, arith, get_or, inl, inr, subst, replicate}
use Rattle.std.specs.Bool.{◌==◌}
use Rattle.std.specs.List.{list_any}
use Rattle.std.proofs.lemmas.Bool.{eq-eqb}
use Rattle.std.proofs.lemmas.List.Elements.{All-replicate}
use Rattle.std.proofs.lemmas.List.Folds.{list_any_at}
use Rattle.std.proofs.lemmas.List.FromFn.{get_or-map-range_with_len, length-map-range_with_len}
use Rattle.d_text.proofs.GridFacts.{grid-sizes}
use Rattle.d_cal.specs.Schedules.{HasPeriods, entry_at}
use Rattle.d_tier.specs.declared.tier.Tier.{Tier}
use Rattle.d_tariff.specs.declared.period.Period.{Period}
use Rattle.d_tariff.specs.declared.charge.Charge.{Charge}
use Rattle.d_tariff.specs.Terms.{Terms, HasEach, period_at}
use Rattle.d_columns.specs.declared.names.Structure.TheVariants.{Energy, Demand, FlatDemand}
use Rattle.d_urdb.specs.declared.rule.RuleChoice.{RuleChoice}
use Rattle.d_urdb.specs.Numbers.{CellReader, IsCellReader, IsHours, zero_hours}
use Rattle.d_columns.specs.Tiers.{Row, named_cell, has_tier}
use Rattle.d_urdb.specs.Periods.{energy_period, energy_periods}
use Rattle.d_urdb.specs.Hours.{hours_or_0, hours_in, occurs_in, weekday_name, weekend_name}
use Rattle.d_urdb.specs.Energy.{HasPeriodTiers}
use Rattle.d_urdb.specs.Charges.{fixed_of, minimum_of}
use Rattle.d_urdb.specs.Demand.{demand_periods, demand_weekday_name, demand_weekend_name}
use Rattle.d_urdb.specs.FlatMonths.{flat_months}
use Rattle.d_urdb.specs.Ratchets.{ratchets}
use Rattle.d_columns.specs.Ignored.{ignored_columns}
use Rattle.d_urdb.specs.Record.{row_terms, is_hourly}

-- twelve months of 24 hours
pub record IsFull (hours : List (List ℕ)) : Type 0 where
  pub months : length hours ≡ 12
  pub days : All (λ month. length month ≡ 24) hours

zero_full : IsFull zero_hours
zero_full = record { months = refl; days = All-replicate (λ (month : List ℕ). length month ≡ 24) 12 (replicate 24 0) refl }

hours_full : (cell : List ℕ) (result : Result (List (List ℕ)) ℕ) → IsHours cell result → IsFull (hours_or_0 result)
hours_full cell (Ok rows) (inl (blank, is)) = subst IsFull (sym is) zero_full
hours_full cell (Ok rows) (inr grid) = let sizes = grid-sizes cell rows grid in record { months = sizes.0; days = sizes.1 }
hours_full cell (Err place) (some, fault) = zero_full

pub schedule_full : (reader : CellReader) → IsCellReader reader → (row : Row) (name : List ℕ) → IsFull (hours_in reader row name)
schedule_full reader are row name = hours_full (named_cell row name) (reader.hours (named_cell row name)) (are.hours_is (named_cell row name))

-- the period of each of its hours occurs in a grid
entry_occurs : (grid : List (List ℕ)) (month hour : ℕ) → IsFull grid → 1 ≤ month → month ≤ 12 → hour < 24
    → occurs_in (entry_at grid month hour) grid ≡ true
entry_occurs grid month hour full first last within =
    let period = entry_at grid month hour in
    let row_in : month - 1 < length grid = omega (arith, full.months) in
    let hour_in : hour < length (get_or grid (month - 1) []) = omega (arith, full.days (month - 1) [] row_in) in
    list_any_at (list_any (λ entry. entry == period)) grid (month - 1) [] row_in
    (list_any_at (λ entry. entry == period) (get_or grid (month - 1) []) hour 0 hour_in (eq-eqb period period refl))

entry_range : (grid : List (List ℕ)) (month hour : ℕ) → HasPeriods grid → IsFull grid → 1 ≤ month → month ≤ 12 → hour < 24 → entry_at grid month hour ≤ 35
entry_range grid month hour range full first last within =
    let row_in : month - 1 < length grid = omega (arith, full.months) in
    let hour_in : hour < length (get_or grid (month - 1) []) = omega (arith, full.days (month - 1) [] row_in) in
    range (month - 1) [] row_in hour 0 hour_in

-- a period with a tier is there
period_there : (reader : CellReader) (row : Row) (period : ℕ) → period ≤ 35 → has_tier row Energy period 0 ≡ true → IsSome (period_at (energy_periods reader row) period)
unfolding energy_periods
period_there reader row period within there =
    let entry = get_or-map-range_with_len (energy_period reader row) 0 36 period period None (omega (arith, within)) (omega arith) in
    rw entry (rw there refl)

each_there : (reader : CellReader) (row : Row) (periods : List (Option Period)) (grid : List (List ℕ)) → periods ≡ energy_periods reader row
    → HasPeriods grid → IsFull grid → HasPeriodTiers row grid → HasEach periods grid
each_there reader row periods grid is range full tiers month hour first last within =
    let entry = entry_at grid month hour in
    rw is (period_there reader row entry (entry_range grid month hour range full first last within)
    (tiers entry (entry_range grid month hour range full first last within) (entry_occurs grid month hour full first last within)))

-- the hours in a column are in periods that are there
pub hours_there : (reader : CellReader) → IsCellReader reader → (row : Row) (name : List ℕ) (periods : List (Option Period)) (grid : List (List ℕ))
    → periods ≡ energy_periods reader row → grid ≡ hours_in reader row name → HasPeriods grid → HasPeriodTiers row grid → HasEach periods grid
hours_there reader are row name periods grid is grid_is range tiers =
    each_there reader row periods grid is range (subst IsFull (sym grid_is) (schedule_full reader are row name)) tiers

pub entries : (reader : CellReader) (row : Row) (periods : List (Option Period)) → periods ≡ energy_periods reader row → length periods ≡ 36
unfolding energy_periods
entries reader row periods is = rw is (length-map-range_with_len (energy_period reader row) 0 36)

-- terms by their parts
abbrev pub terms_with : List (Option Period) → List (Option (List Tier)) → List (Option (List Tier)) → List (List ℕ) → List (List ℕ) → List (List ℕ) → List (List ℕ)
    → List ℕ → List ℕ → Charge → Option Charge → Bool → List ℕ → Terms
terms_with energy demand flat weekday weekend demand_weekday demand_weekend months ratchet fixed minimum hourly ignored = record {
  energy = energy;
  demand = demand;
  flat = flat;
  energy_weekday = weekday;
  energy_weekend = weekend;
  demand_weekday = demand_weekday;
  demand_weekend = demand_weekend;
  flat_months = months;
  ratchet = ratchet;
  fixed = fixed;
  minimum = minimum;
  hourly = hourly;
  ignored = ignored;
}

-- terms whose parts are those of the row
pub row_terms_are : (reader : CellReader) (row : Row) (rule : RuleChoice) (energy : List (Option Period)) (demand flat : List (Option (List Tier)))
    (weekday weekend demand_weekday demand_weekend : List (List ℕ)) (months ratchet : List ℕ) (fixed : Charge) (minimum : Option Charge) (hourly : Bool) (ignored : List ℕ)
    → energy ≡ energy_periods reader row → demand ≡ demand_periods reader row Demand → flat ≡ demand_periods reader row FlatDemand
    → weekday ≡ hours_in reader row weekday_name → weekend ≡ hours_in reader row weekend_name
    → demand_weekday ≡ hours_in reader row demand_weekday_name → demand_weekend ≡ hours_in reader row demand_weekend_name
    → months ≡ flat_months reader row → ratchet ≡ ratchets reader row → fixed ≡ fixed_of reader row → minimum ≡ minimum_of reader row
    → hourly ≡ is_hourly row rule → ignored ≡ ignored_columns row
    → terms_with energy demand flat weekday weekend demand_weekday demand_weekend months ratchet fixed minimum hourly ignored ≡ row_terms reader row rule
unfolding row_terms
row_terms_are reader row rule energy demand flat weekday weekend demand_weekday demand_weekend months ratchet fixed minimum hourly ignored
    energy_is demand_is flat_is weekday_is weekend_is demand_weekday_is demand_weekend_is months_are ratchet_is fixed_is minimum_is hourly_is ignored_are =
    λ i. terms_with (energy_is i) (demand_is i) (flat_is i) (weekday_is i) (weekend_is i) (demand_weekday_is i) (demand_weekend_is i) (months_are i) (ratchet_is i)
    (fixed_is i) (minimum_is i) (hourly_is i) (ignored_are i)

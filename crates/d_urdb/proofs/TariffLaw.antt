-- The terms of a record that isn't refused are a valid tariff, whoever reads it.
use Rattle.std.proofs.Common.{◌≡◌, ◌∙◌, ℕ, ◌^◌, ◌<◌, ◌≤◌, true, List, [], ◌∷◌, ◌++◌, map, All, Option, None, Some, Result, Ok, Err, subst, sym, ap, refl, arith, inl, inr}
use Rattle.std.proofs.lemmas.Option.{cond_some}
use Rattle.std.proofs.lemmas.List.FromFn.{get_or-map-range_with_len, length-map-range_with_len}
use Rattle.std.specs.List.{range_with_len}
use Rattle.std.specs.Option.{ForSome}
use Rattle.d_cal.specs.Schedules.{HasPeriods}
use Rattle.d_table.specs.Table.{row_at, column_of}
use Rattle.d_text.proofs.GridFacts.{grid-hours}
use Rattle.d_tier.specs.declared.tier.Tier.{Tier}
use Rattle.d_tier.specs.Tables.{IsTierTable}
use Rattle.d_tariff.specs.declared.period.Period.{Period}
use Rattle.d_tariff.specs.Terms.{Terms, IsTariff, HasEnergyPrices, HasDemandPrices, IsHourGrid, HasGrids, HasTable, HasTables}
use Rattle.d_columns.specs.declared.names.Structure.{Structure}
use Rattle.d_columns.specs.declared.names.Structure.TheVariants.{Energy, Demand, FlatDemand}
use Rattle.d_columns.specs.Tiers.{Row, named_cell, has_tier}
use Rattle.d_urdb.specs.declared.fault.Refused.{Refused}
use Rattle.d_urdb.specs.declared.rule.RuleChoice.{RuleChoice}
use Rattle.d_urdb.specs.Numbers.{CellReader, IsCellReader, IsHours}
use Rattle.d_urdb.specs.Refusals.{first_of, each}
use Rattle.d_urdb.specs.Checks.{Passes}
use Rattle.d_urdb.specs.Periods.{is_demand, period_refusals, tiers_to, sell_of, energy_period, energy_periods}
use Rattle.d_urdb.specs.Demand.{demand_tiers, demand_periods, demand_weekday_name, demand_weekend_name}
use Rattle.d_urdb.specs.Hours.{hours_or_0, hours_in, grid_refusal, hours_refusals, missing_refusals, weekday_name, weekend_name}
use Rattle.d_urdb.specs.Charges.{charge_refusals, minimum_refusals, zero_refusals, annual_name, fixed_name, fixed_unit_name, fixed_of}
use Rattle.d_urdb.specs.FlatMonths.{flat_month, flat_months}
use Rattle.d_urdb.specs.Ratchets.{ratchet_refusals, ratchet_of, ratchets}
use Rattle.d_urdb.specs.Record.{record_outcome, column_outcome, one_row_outcome, row_outcome, row_terms, row_refusals, refused_or, labelled_rows, label_name, rule_refusals, energy_section, demand_section, flat_section, adjustment_section}
use Rattle.d_urdb.specs.Law.{HoldsOfAccepted, AcceptsTariffs, AcceptsTables, AcceptsGrids}
use Rattle.d_urdb.proofs.DemandFacts.{demand_entries, in_range}
use Rattle.d_urdb.proofs.HourFacts.{zero_in_range, weekday_there, weekend_there}
use Rattle.d_urdb.proofs.OneReader.{one_reader}
use Rattle.d_urdb.proofs.PeriodChecks.{period_rises, period_not_falling}
use Rattle.d_urdb.proofs.ReadBounds.{prices_to, sell_within, charge_within, minimum_within, ratchet_within, flat_month_within}
use Rattle.d_urdb.proofs.RefusalOrder.{front_none, each_none}
use Rattle.d_urdb.proofs.TermFacts.{schedule_full, hours_there, entries}
use Rattle.d_urdb.proofs.TierTables.{table_to}
use Rattle.d_urdb.specs.declared.cause.Cause.TheVariants as cause

-- what no refusal of a row says of its parts
record NothingRefused (reader : CellReader) (row : Row) : Type 0 where
  energy : first_of (each 36 (period_refusals reader row Energy)) ≡ None
  missing : first_of (missing_refusals row (hours_in reader row weekday_name) (hours_in reader row weekend_name)) ≡ None
  demand : first_of (each 36 (period_refusals reader row Demand)) ≡ None
  flat : first_of (each 36 (period_refusals reader row FlatDemand)) ≡ None
  minimum : first_of (minimum_refusals reader row) ≡ None

parts_of : (reader : CellReader) (row : Row) (rule : RuleChoice) → first_of (row_refusals reader row rule) ≡ None → NothingRefused reader row
unfolding row_refusals
parts_of reader row rule none =
    let energy = front_none (energy_section reader row rule) _ none in
    let demand = front_none (demand_section reader row) _ energy.1 in
    let flat = front_none (flat_section reader row) _ demand.1 in
    let ratchet = front_none (ratchet_refusals reader row) _ flat.1 in
    let fixed = front_none (charge_refusals reader row fixed_name fixed_unit_name) _ ratchet.1 in
    let minimum =
    front_none (minimum_refusals reader row) (zero_refusals reader row annual_name cause.AnnualMinimum ++ adjustment_section reader row) fixed.1 in
    let periods = front_none (rule_refusals row rule) _ energy.0 in
    let hours = front_none (each 36 (period_refusals reader row Energy)) (hours_refusals reader row) periods.1 in
    let weekday = front_none (grid_refusal reader row weekday_name ∷ []) _ hours.1 in
    let weekend = front_none (grid_refusal reader row weekend_name ∷ []) _ weekday.1 in
    record {
      energy = hours.0;
      missing = weekend.1;
      demand = (front_none (each 36 (period_refusals reader row Demand)) _ demand.0).0;
      flat = (front_none (each 36 (period_refusals reader row FlatDemand)) _ flat.0).0;
      minimum = minimum.0;
    }

-- a row of which nothing is refused, and whose terms these are
record IsRowOfTerms (reader : CellReader) (rule : RuleChoice) (terms : Terms) (row : Row) : Type 0 where
  none : first_of (row_refusals reader row rule) ≡ None
  are : terms ≡ row_terms reader row rule

row_of : (reader : CellReader) (rows : List (List (List ℕ))) (label : List ℕ) (rule : RuleChoice) (terms : Terms) → Ok terms ≡ record_outcome reader rows label rule
    → (row : Row) × IsRowOfTerms reader rule terms row
unfolding row_outcome
row_of reader rows label rule terms = by_column (column_of label_name (row_at rows 0))
  where
    by_refusal : (row : Row) (first : Option Refused) → first_of (row_refusals reader row rule) ≡ first
        → Ok terms ≡ refused_or first (row_terms reader row rule) → (row : Row) × IsRowOfTerms reader rule terms row
    by_refusal row None none same =
        let both : ◌≡◌ {A = Result Terms Refused} (Ok terms) (Ok (row_terms reader row rule)) = same in
        (row, record { none = none; are = cc })
    by_refusal row (Some refused) first same = let both : ◌≡◌ {A = Result Terms Refused} (Ok terms) (Err refused) = same in absurd (cc)

    by_rows : (header : List (List ℕ)) (cells : List (List (List ℕ))) → Ok terms ≡ one_row_outcome reader header rule cells
        → (row : Row) × IsRowOfTerms reader rule terms row
    by_rows header [] same = absurd (cc)
    by_rows header (one ∷ []) same =
        let row : Row = record { header = header; cells = one } in by_refusal row (first_of (row_refusals reader row rule)) refl same
    by_rows header (one ∷ other ∷ rest) same = absurd (cc)

    by_column : (column : Option ℕ) → Ok terms ≡ column_outcome reader rows label rule column → (row : Row) × IsRowOfTerms reader rule terms row
    by_column None same = absurd (cc)
    by_column (Some column) same = by_rows (row_at rows 0) (labelled_rows rows label) same

-- what holds of each entry that a function makes holds of all
all_made : {X : Type 0} (P : X → Type 0) (f : ℕ → X) (count : ℕ) → ((k : ℕ) → k < count → P (f k)) → All P (map f (range_with_len 0 count))
all_made P f count each k other below =
    let within : k < count = omega (arith, below, length-map-range_with_len f 0 count) in
    subst P (sym (get_or-map-range_with_len f 0 count k k other within (omega arith))) (each k within)

-- refusals that don't come for one reader come for none
for_all : (refusals : CellReader → List (Option Refused)) (reader : CellReader) → IsCellReader reader → first_of (refusals reader) ≡ None → Passes refusals
for_all refusals reader are none other are_too =
    subst (λ (r : CellReader). first_of (refusals r) ≡ None) (one_reader.only reader are ∙ sym (one_reader.only other are_too)) none

-- hours that are read are in the periods 0 to 35
read_hours : (cell : List ℕ) (result : Result (List (List ℕ)) ℕ) → IsHours cell result → HasPeriods (hours_or_0 result)
read_hours cell (Ok rows) (inl (blank, is)) = subst HasPeriods (sym is) zero_in_range
read_hours cell (Ok rows) (inr grid) = grid-hours cell rows grid
read_hours cell (Err place) fault = zero_in_range

module _ (reader : CellReader) (are : IsCellReader reader) (row : Row) where
  -- a schedule is a grid
  schedule_grid : (name : List ℕ) → IsHourGrid (hours_in reader row name)
  schedule_grid name =
      let full = schedule_full reader are row name in
      let cell = named_cell row name in
      record { months = full.months; hours = full.days; periods = read_hours cell (reader.hours cell) (are.hours_is cell) }

  -- a period of which nothing is refused
  period_none : (structure : Structure) → first_of (each 36 (period_refusals reader row structure)) ≡ None → (period : ℕ) → period < 36
      → Passes (λ reader. period_refusals reader row structure period)
  period_none structure none period within =
      for_all (λ reader. period_refusals reader row structure period) reader are (each_none 36 period (period_refusals reader row structure) within none)

  -- its tiers are a table
  table_at : (structure : Structure) → first_of (each 36 (period_refusals reader row structure)) ≡ None → (period : ℕ) → period < 36
      → IsTierTable (tiers_to reader row structure period 15)
  table_at structure none period within =
      table_to reader are row structure period 15 (omega arith) (period_rises row structure period (period_none structure none period within))

  -- and where it is one of demand its prices are from 0 up
  demand_prices_at : (structure : Structure) → is_demand structure ≡ true → first_of (each 36 (period_refusals reader row structure)) ≡ None
      → (period : ℕ) → period < 36 → HasDemandPrices (tiers_to reader row structure period 15)
  demand_prices_at structure demand none period within =
      in_range row structure period (tiers_to reader row structure period 15) demand
      (λ other are_too tier low. period_not_falling row structure period (period_none structure none period within) other are_too tier (omega (arith, low)))
      (λ other are_too. ap (λ (r : CellReader). tiers_to r row structure period 15) (one_reader.only reader are ∙ sym (one_reader.only other are_too)))
      (prices_to reader are row structure period 15)

  -- an energy period that is there
  energy_made : (P : Period → Type 0)
      → ((period : ℕ) → period < 36 → P (record { tiers = tiers_to reader row Energy period 15; sell = sell_of reader row Energy period }))
      → All (λ period. ForSome period P) (energy_periods reader row)
  unfolding energy_periods
  energy_made P each = all_made (λ (o : Option Period). ForSome o P) (energy_period reader row) 36 (λ period within found is.
      let there = cond_some (has_tier row Energy period 0) (record { tiers = tiers_to reader row Energy period 15; sell = sell_of reader row Energy period }) found is in
      subst P there.1 (each period within))

  -- a period of demand that is there
  demand_made : (structure : Structure) (P : List Tier → Type 0) → ((period : ℕ) → period < 36 → P (tiers_to reader row structure period 15))
      → All (λ tiers. ForSome tiers P) (demand_periods reader row structure)
  unfolding demand_periods
  demand_made structure P each = all_made (λ (o : Option (List Tier)). ForSome o P) (demand_tiers reader row structure) 36 (λ period within found is.
      let there = cond_some (has_tier row structure period 0) (tiers_to reader row structure period 15) found is in
      subst P there.1 (each period within))

  module _ (rule : RuleChoice) (refused : NothingRefused reader row) where
    -- the terms are a valid tariff
    row_tariff : IsTariff (row_terms reader row rule)
    unfolding row_terms flat_months ratchets fixed_of
    row_tariff =
        let weekday = hours_in reader row weekday_name in
        let weekend = hours_in reader row weekend_name in
        let missing : Passes (λ reader. missing_refusals row weekday weekend) = λ other are_too. refused.missing in
        let periods = energy_periods reader row in
        record {
          energy_entries = entries reader row periods refl;
          demand_entries = demand_entries reader row Demand (demand_periods reader row Demand) refl;
          flat_entries = demand_entries reader row FlatDemand (demand_periods reader row FlatDemand) refl;
          weekday = hours_there reader are row weekday_name periods weekday refl refl (schedule_grid weekday_name).periods (weekday_there row weekday weekend missing);
          weekend = hours_there reader are row weekend_name periods weekend refl refl (schedule_grid weekend_name).periods (weekend_there row weekday weekend missing);
          flat_months = all_made (λ number. number ≤ 35) (flat_month reader row) 12 (λ month within. flat_month_within reader are row month);
          ratchet = all_made (λ fraction. fraction ≤ 10 ^ 20) (ratchet_of reader row) 12 (λ month within. ratchet_within reader are row month);
          energy_prices = energy_made HasEnergyPrices
              (λ period within. record { tiers = prices_to reader are row Energy period 15; sell = sell_within reader are row Energy period });
          demand_prices = demand_made Demand HasDemandPrices (demand_prices_at Demand refl refused.demand);
          flat_prices = demand_made FlatDemand HasDemandPrices (demand_prices_at FlatDemand refl refused.flat);
          fixed = charge_within reader are row fixed_name fixed_unit_name;
          minimum = minimum_within reader are row refused.minimum;
        }

    -- their tiers are tables
    row_tables : HasTables (row_terms reader row rule)
    unfolding row_terms
    row_tables = record {
      energy = energy_made HasTable (table_at Energy refused.energy);
      demand = demand_made Demand IsTierTable (table_at Demand refused.demand);
      flat = demand_made FlatDemand IsTierTable (table_at FlatDemand refused.flat);
    }

    -- and their schedules are grids
    row_grids : HasGrids (row_terms reader row rule)
    unfolding row_terms flat_months ratchets
    row_grids = record {
      energy_weekday = schedule_grid weekday_name;
      energy_weekend = schedule_grid weekend_name;
      demand_weekday = schedule_grid demand_weekday_name;
      demand_weekend = schedule_grid demand_weekend_name;
      flat_months = length-map-range_with_len (flat_month reader row) 0 12;
      ratchet = length-map-range_with_len (ratchet_of reader row) 0 12;
    }

-- what holds of each row of which nothing is refused holds of each accepted record
by_row : (P : Terms → Type 0)
    → ((reader : CellReader) → IsCellReader reader → (row : Row) (rule : RuleChoice) → NothingRefused reader row → P (row_terms reader row rule))
    → HoldsOfAccepted P
by_row P each rows label rule terms is =
    let found = row_of is.0 rows label rule terms is.2 in
    subst P (sym found.1.are) (each is.0 is.1 found.0 rule (parts_of is.0 found.0 rule found.1.none))

pub accepts_tariffs : AcceptsTariffs
accepts_tariffs = by_row IsTariff row_tariff

pub accepts_tables : AcceptsTables
accepts_tables = by_row HasTables row_tables

pub accepts_grids : AcceptsGrids
accepts_grids = by_row HasGrids row_grids

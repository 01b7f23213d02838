-- Demand and flat demand: their units, and the tiers of their periods.
use Rattle.std.specs.Prelude.{◌≡◌, ℕ, Bool, not, List, [], ◌∷◌, codes, Option, None, Some, map, if◌then◌else◌}
use Rattle.std.specs.List.{range_with_len}
use Rattle.d_cal.specs.declared.schedule.Schedule.{Schedule}
use Rattle.d_table.specs.Table.{column_of}
use Rattle.d_tier.specs.declared.tier.Tier.{Tier}
use Rattle.d_urdb.specs.declared.fault.Refused.{Refused}
use Rattle.d_columns.specs.declared.names.Structure.{Structure}
use Rattle.d_urdb.specs.Hours.{grid_refusal, hours_in}
use Rattle.d_urdb.specs.Numbers.{CellReader, IsCellReader}
use Rattle.d_urdb.specs.Periods.{is_unit, tiers_to}
use Rattle.d_urdb.specs.Refusals.{refusal, when}
use Rattle.d_columns.specs.Tiers.{Row, named_cell, has_tier}
use Rattle.d_urdb.specs.declared.cause.Cause.TheVariants as cause

-- the column of the demand periods of weekday hours
abbrev pub demand_weekday_name : List ℕ
demand_weekday_name = codes "demandweekdayschedule"

-- the column of the demand periods of weekend hours
abbrev pub demand_weekend_name : List ℕ
demand_weekend_name = codes "demandweekendschedule"

-- the column of the unit of demand
abbrev pub demand_unit_name : List ℕ
demand_unit_name = codes "demandrateunit"

-- the column of the unit of flat demand
abbrev pub flat_unit_name : List ℕ
flat_unit_name = codes "flatdemandunit"

-- an accepted unit of demand: none, or kW in letters of either case
abbrev pub is_kw : List ℕ → Bool
is_kw = is_unit (codes "kw")

-- 12: the unit of demand
abbrev pub demand_unit_refusal : Row → List ℕ → Option Refused
demand_unit_refusal row name = when (not (is_kw (named_cell row name))) (refusal row.header cause.DemandUnit (column_of name row.header) 0)

-- all refusals of the hours, in order; an hour in a period without a tier isn't refused
abbrev pub demand_hours_refusals : CellReader → Row → List (Option Refused)
demand_hours_refusals reader row = grid_refusal reader row demand_weekday_name ∷ grid_refusal reader row demand_weekend_name ∷ []

-- these are the hours of the row's schedules of demand
pub record AreDemandHours (row : Row) (hours : Schedule) : Type 0 where
  pub weekday : (reader : CellReader) → IsCellReader reader → hours.weekday ≡ hours_in reader row demand_weekday_name
  pub weekend : (reader : CellReader) → IsCellReader reader → hours.weekend ≡ hours_in reader row demand_weekend_name

-- the tiers of a period of demand; None where it has none
abbrev pub demand_tiers : CellReader → Row → Structure → ℕ → Option (List Tier)
demand_tiers reader row structure period =
    if has_tier row structure period 0 then Some (tiers_to reader row structure period 15) else None

-- those of all periods by their numbers
unfoldable pub demand_periods : CellReader → Row → Structure → List (Option (List Tier))
demand_periods reader row structure = map (demand_tiers reader row structure) (range_with_len 0 36)

-- What a record's energy periods and their hours keep where nothing of them is refused.
use Rattle.std.specs.Prelude.{◌≡◌, ℕ, ◌≤◌, true, List}
use Rattle.d_cal.specs.declared.schedule.Schedule.{Schedule}
use Rattle.d_columns.specs.declared.names.Structure.{Structure}
use Rattle.d_columns.specs.declared.names.Structure.TheVariants.{Energy}
use Rattle.d_urdb.specs.Numbers.{CellReader, IsCellReader}
use Rattle.d_columns.specs.Tiers.{Row, has_tier}
use Rattle.d_urdb.specs.Hours.{weekday_name, weekend_name, hours_in, occurs_in}
use Rattle.d_urdb.specs.Values.{HasRisingEnds}

-- the ends of the tiers of each period of a structure rise
abbrev pub HasRisingPeriods : Row → Structure → Type 0
HasRisingPeriods row structure = (period : ℕ) → period ≤ 35 → HasRisingEnds row structure period

-- each period of these hours has a tier
abbrev pub HasPeriodTiers : Row → List (List ℕ) → Type 0
HasPeriodTiers row hours = (period : ℕ) → period ≤ 35 → occurs_in period hours ≡ true → has_tier row Energy period 0 ≡ true

-- these are the hours of the row's energy schedules, and their periods have tiers
pub record AreEnergyHours (row : Row) (hours : Schedule) : Type 0 where
  pub weekday : (reader : CellReader) → IsCellReader reader → hours.weekday ≡ hours_in reader row weekday_name
  pub weekend : (reader : CellReader) → IsCellReader reader → hours.weekend ≡ hours_in reader row weekend_name
  pub weekday_tiers : HasPeriodTiers row hours.weekday
  pub weekend_tiers : HasPeriodTiers row hours.weekend

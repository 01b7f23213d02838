-- What holds of all tables of readings.
use Rattle.std.specs.Prelude.{◌≡◌, ℕ, List, Result, Ok}
use Rattle.d_cal.specs.Calendar.{IsMonth}
use Rattle.d_meter.specs.Meters.{Metered, IsReadings}
use Rattle.d_meter.specs.Readings.{MeterReader, IsMeterReader, IsOutcome}
use Rattle.d_meter.specs.declared.fault.MeterFault.{MeterFault}

-- there is one way to read all cells, and no other
pub record HasOneReader : Type 0 where
  pub reader : MeterReader
  pub is_reader : IsMeterReader reader
  pub only : (others : MeterReader) → IsMeterReader others → others ≡ reader

-- each table has one outcome, and no other
abbrev pub HasOneOutcome : Type 0
HasOneOutcome =
    (rows : List (List (List ℕ)))
    → (outcome : Result Metered MeterFault) × IsOutcome rows outcome × ((other : Result Metered MeterFault) → IsOutcome rows other → other ≡ outcome)

-- accepted readings are those of a month of the calendar, from its first minute to its last
abbrev pub AcceptsMonths : Type 0
AcceptsMonths =
    (rows : List (List (List ℕ))) (metered : Metered)
    → IsOutcome rows (Ok metered) → IsMonth metered.year metered.number × IsReadings metered.year metered.number metered.minutes metered.net

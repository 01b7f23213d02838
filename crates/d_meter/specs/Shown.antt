-- What a meter shows as plain values.
use Rattle.d_meter.specs.declared.meter.Meter.{Meter}
use Rattle.d_meter.specs.Meters.{Metered}

-- a meter's readings
abbrev pub metered_of : Meter → Metered
metered_of m = record { year = m.month.year; number = m.month.number; minutes = m.minutes; net = m.net }

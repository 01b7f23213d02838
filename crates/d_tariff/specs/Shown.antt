-- What a tariff shows as plain values.
use Rattle.d_tariff.specs.declared.tariff.Tariff.{Tariff}
use Rattle.d_tariff.specs.Terms.{Terms}

-- a tariff's terms
abbrev pub terms_of : Tariff → Terms
terms_of t = record {
  energy = t.energy;
  demand = t.demand;
  flat = t.flat;
  energy_weekday = t.energy_hours.weekday;
  energy_weekend = t.energy_hours.weekend;
  demand_weekday = t.demand_hours.weekday;
  demand_weekend = t.demand_hours.weekend;
  flat_months = t.flat_months;
  ratchet = t.ratchet;
  fixed = t.fixed;
  minimum = t.minimum;
  hourly = t.hourly;
  ignored = t.ignored;
}

use Rattle.d_urdb.specs.Shown.{row_of}
use Rattle.d_columns.specs.declared.names.Structure.TheVariants.{Demand, FlatDemand}
use Rattle.d_urdb.specs.Hours.{weekday_name, weekend_name}
use Rattle.d_urdb.proofs.OneReader.{one_reader}
use Rattle.d_urdb.proofs.DemandFacts.{demand_entries}
use Rattle.d_urdb.proofs.TermFacts.{hours_there, entries, row_terms_are}
use Rattle.d_urdb.proofs.row.Record.tariff.Goals as goal

pub invariant_of-result : goal.invariant_of-result
invariant_of-result c =
    let row = row_of c.args.self.now in
    let reader = one_reader.reader in
    let are = one_reader.is_reader in
    let energy = c.in_ok-energy_periods.ensures.value reader are in
    let demand = c.in_ok-demand_periods.ensures.value reader are in
    let flat = c.in_ok-demand_periods-2.ensures.value reader are in
    let hours = c.requires.energy_hours in
    record {
      valid = record {
        energy_entries = entries reader row c.in_ok-energy_periods.field-0 energy;
        demand_entries = demand_entries reader row Demand c.in_ok-demand_periods.field-0 demand;
        flat_entries = demand_entries reader row FlatDemand c.in_ok-demand_periods-2.field-0 flat;
        weekday = hours_there reader are row weekday_name c.in_ok-energy_periods.field-0 c.args.accepted.energy_hours.weekday energy
            (hours.weekday reader are) c.args.accepted.energy_hours.weekday_in_range hours.weekday_tiers;
        weekend = hours_there reader are row weekend_name c.in_ok-energy_periods.field-0 c.args.accepted.energy_hours.weekend energy
            (hours.weekend reader are) c.args.accepted.energy_hours.weekend_in_range hours.weekend_tiers;
        flat_months = c.requires.months_in_range;
        ratchet = c.requires.ratchet_in_range;
        energy_prices = c.in_ok-energy_periods.ensures.prices;
        demand_prices = c.in_ok-demand_periods.ensures.prices;
        flat_prices = c.in_ok-demand_periods-2.ensures.prices;
        fixed = c.requires.fixed_in_range;
        minimum = c.requires.minimum_in_range;
      };
    }

pub returns : goal.returns
returns c reader are =
    row_terms_are reader (row_of c.args.self.now) c.args.rule c.in_ok-energy_periods.field-0 c.in_ok-demand_periods.field-0 c.in_ok-demand_periods-2.field-0
    c.args.accepted.energy_hours.weekday c.args.accepted.energy_hours.weekend c.args.accepted.demand_hours.weekday c.args.accepted.demand_hours.weekend
    c.args.accepted.flat_months c.args.accepted.ratchet c.args.accepted.fixed c.args.accepted.minimum c.is_hourly.result c.in_ok-ignored_columns.field-0
    (c.in_ok-energy_periods.ensures.value reader are) (c.in_ok-demand_periods.ensures.value reader are) (c.in_ok-demand_periods-2.ensures.value reader are)
    (c.requires.energy_hours.weekday reader are) (c.requires.energy_hours.weekend reader are)
    (c.requires.demand_hours.weekday reader are) (c.requires.demand_hours.weekend reader are)
    (c.requires.flat_months reader are) (c.requires.ratchet reader are) (c.requires.fixed reader are) (c.requires.minimum reader are)
    c.is_hourly.ensures c.in_ok-ignored_columns.ensures

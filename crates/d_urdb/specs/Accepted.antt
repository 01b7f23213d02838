-- What is kept of a row of which nothing is refused.
use Rattle.std.specs.Prelude.{◌≤◌, ◌^◌, All}
use Rattle.std.specs.Option.{ForSome}
use Rattle.d_tariff.specs.Terms.{IsCharge, IsMinimum}
use Rattle.d_columns.specs.declared.names.Structure.TheVariants.{Energy, Demand, FlatDemand}
use Rattle.d_urdb.specs.declared.terms.Accepted.{Accepted}
use Rattle.d_urdb.specs.Charges.{fixed_of, minimum_of}
use Rattle.d_urdb.specs.Demand.{AreDemandHours}
use Rattle.d_urdb.specs.Energy.{HasRisingPeriods, AreEnergyHours}
use Rattle.d_urdb.specs.FlatMonths.{flat_months}
use Rattle.d_urdb.specs.Numbers.{Reads}
use Rattle.d_urdb.specs.Ratchets.{ratchets}
use Rattle.d_columns.specs.Tiers.{Row}
use Rattle.d_urdb.specs.Values.{HasSoundPrices}

-- the ends of the tiers rise in all periods, no price of demand is below 0, and what was read is what the row says
pub record IsAccepted (row : Row) (accepted : Accepted) : Type 0 where
  pub energy_rises : HasRisingPeriods row Energy
  pub demand_rises : HasRisingPeriods row Demand
  pub demand_prices : HasSoundPrices row Demand
  pub flat_rises : HasRisingPeriods row FlatDemand
  pub flat_prices : HasSoundPrices row FlatDemand
  pub energy_hours : AreEnergyHours row accepted.energy_hours
  pub demand_hours : AreDemandHours row accepted.demand_hours
  pub flat_months : Reads (λ reader. flat_months reader row) accepted.flat_months
  pub months_in_range : All (λ number. number ≤ 35) accepted.flat_months
  pub ratchet : Reads (λ reader. ratchets reader row) accepted.ratchet
  pub ratchet_in_range : All (λ fraction. fraction ≤ 10 ^ 20) accepted.ratchet
  pub fixed : Reads (λ reader. fixed_of reader row) accepted.fixed
  pub fixed_in_range : IsCharge accepted.fixed
  pub minimum : Reads (λ reader. minimum_of reader row) accepted.minimum
  pub minimum_in_range : ForSome accepted.minimum IsMinimum

-- Problems whose prices are in range.
use Rattle.std.specs.Prelude.{◌*◌, ◌^◌, ◌≤◌, length, All}
use Rattle.std.specs.Option.{ForSome}
use Rattle.d_num.specs.Amount.{IsWithin}
use Rattle.d_tariff.specs.declared.period.Period.{Period}
use Rattle.d_batt.specs.Storage.{IsStorage}
use Rattle.d_bill.specs.Inputs.{Inputs}

-- a period's prices, of any tier and for export, are at most 3000 USD per kWh in size
pub record HasFairPrices (period : Period) : Type 0 where
  pub tiers : All (λ tier. IsWithin (3 * 10 ^ 21) tier.price) period.tiers
  pub sell : IsWithin (3 * 10 ^ 21) period.sell

-- there are at most so many intervals as a month of 5 minutes has, the prices are in range, and the battery is valid
pub record IsFair (i : Inputs) : Type 0 where
  pub few_intervals : length i.net ≤ 8928
  pub energy : All (λ period. ForSome period HasFairPrices) i.energy
  pub storage : IsStorage i.storage

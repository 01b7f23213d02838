use Rattle.d_tariff.specs.Terms.{HasDemandPrices}
use Rattle.d_tariff.proofs.EntryFacts.{entry_keeps, found_keeps}
use Rattle.d_tariff.proofs.tariff.Tariff.flat_tiers.Goals as goal

pub returns-clause-prices : goal.returns-clause-prices
returns-clause-prices c =
    found_keeps HasDemandPrices c.entry.result _ c.entry.ensures (entry_keeps HasDemandPrices c.args.self.now.flat _ c.args.self.now.valid.flat_prices)

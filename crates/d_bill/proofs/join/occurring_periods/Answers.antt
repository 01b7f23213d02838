use Rattle.std.proofs.Common.{arith}
use Rattle.std.specs.Option.{ForSome}
use Rattle.d_tariff.specs.Shown.{terms_of}
use Rattle.d_bill.specs.Inputs.{HasPrices}
use Rattle.d_bill.specs.Join.{occurring}
use Rattle.d_bill.proofs.JoinFacts.{all_more, map_more, energy_all}
use Rattle.d_bill.proofs.join.occurring_periods.Goals as goal

pub loop-number-preserved : goal.loop-number-preserved
loop-number-preserved c =
    let added = c.in_ok-add.ensures.ok in (
      map_more (occurring (terms_of c.args.tariff.now) c.args.periods.now) _ c.loop-number.number _ _ added c.loop-number.invariant.0 c.occurring.ensures.value,
      all_more (λ period. ForSome period HasPrices) _ _ _ added c.loop-number.invariant.1 c.occurring.ensures.prices,
    )

pub returns-clause-value : goal.returns-clause-value
returns-clause-value c = energy_all (terms_of c.args.tariff.now) c.args.periods.now c.loop-number.number c.loop-number.energy (omega arith) c.loop-number.invariant.0

use Rattle.std.proofs.Common.{◌≡◌, map, All}
use Rattle.std.specs.List.{range_with_len}
use Rattle.std.specs.Option.{ForSome}
use Rattle.d_tariff.specs.Shown.{terms_of}
use Rattle.d_bill.specs.Inputs.{HasPrices}
use Rattle.d_bill.specs.Join.{occurring}
use Rattle.d_bill.proofs.join.occurring_periods.Given as goal

abbrev pub invariant-loop-number : goal.invariant-loop-number
invariant-loop-number l =
    (l.energy ≡ map (occurring (terms_of l.tariff) l.periods) (range_with_len 0 l.number))
    × All (λ period. ForSome period HasPrices) l.energy

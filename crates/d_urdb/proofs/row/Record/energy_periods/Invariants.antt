use Rattle.std.proofs.Common.{◌≡◌, map, All}
use Rattle.std.specs.Option.{ForSome}
use Rattle.std.specs.List.{range_with_len}
use Rattle.d_tariff.specs.Terms.{HasEnergyPrices}
use Rattle.d_urdb.specs.Numbers.{CellReader, IsCellReader}
use Rattle.d_urdb.specs.Shown.{row_of}
use Rattle.d_urdb.specs.Periods.{energy_period}
use Rattle.d_urdb.proofs.row.Record.energy_periods.Given as goal

abbrev pub invariant-loop-period : goal.invariant-loop-period
invariant-loop-period l =
    ((reader : CellReader) → IsCellReader reader → l.periods ≡ map (energy_period reader (row_of l.fn.self)) (range_with_len 0 l.period))
    × All (λ period. ForSome period HasEnergyPrices) l.periods

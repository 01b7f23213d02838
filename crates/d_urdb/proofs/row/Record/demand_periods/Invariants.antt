use Rattle.std.proofs.Common.{◌≡◌, map, All}
use Rattle.std.specs.Option.{ForSome}
use Rattle.std.specs.List.{range_with_len}
use Rattle.d_tariff.specs.Terms.{HasDemandPrices}
use Rattle.d_urdb.specs.Numbers.{CellReader, IsCellReader}
use Rattle.d_urdb.specs.Shown.{row_of}
use Rattle.d_urdb.specs.Demand.{demand_tiers}
use Rattle.d_urdb.proofs.row.Record.demand_periods.Given as goal

abbrev pub invariant-loop-period : goal.invariant-loop-period
invariant-loop-period l =
    ((reader : CellReader) → IsCellReader reader → l.lists ≡ map (demand_tiers reader (row_of l.fn.self) l.fn.structure) (range_with_len 0 l.period))
    × All (λ tiers. ForSome tiers HasDemandPrices) l.lists

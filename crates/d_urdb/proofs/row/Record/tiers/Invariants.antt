use Rattle.std.proofs.Common.{◌≡◌, ◌-◌}
use Rattle.d_urdb.specs.Shown.{row_of}
use Rattle.d_urdb.specs.Numbers.{CellReader, IsCellReader}
use Rattle.d_urdb.specs.Periods.{tiers_to}
use Rattle.d_urdb.specs.Values.{HasPrices}
use Rattle.d_urdb.proofs.row.Record.tiers.Given as goal

abbrev pub invariant-loop-tier : goal.invariant-loop-tier
invariant-loop-tier l =
    ((reader : CellReader) → IsCellReader reader → l.tiers ≡ tiers_to reader (row_of l.fn.self) l.fn.structure l.fn.period (l.tier - 1)) × HasPrices l.tiers

use Rattle.std.proofs.Common.{◌≡◌, ℕ, ◌<◌, false}
use Rattle.d_columns.specs.declared.names.Part.TheVariants.{Sell}
use Rattle.d_urdb.specs.Shown.{row_of}
use Rattle.d_columns.specs.Tiers.{part_cell, is_filled}
use Rattle.d_urdb.proofs.row.Record.first_sell.Given as goal

abbrev pub invariant-loop-tier : goal.invariant-loop-tier
invariant-loop-tier l = (tier : ℕ) → tier < l.tier → is_filled (part_cell (row_of l.fn.self) l.fn.structure l.fn.period tier Sell) ≡ false

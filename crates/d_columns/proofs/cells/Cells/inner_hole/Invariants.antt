use Rattle.std.proofs.Common.{◌≡◌, ℕ, ◌<◌, false}
use Rattle.d_columns.specs.Shown.{row_of}
use Rattle.d_columns.specs.Tiers.{is_hole}
use Rattle.d_columns.proofs.cells.Cells.inner_hole.Given as goal

abbrev pub invariant-loop-tier : goal.invariant-loop-tier
invariant-loop-tier l = (tier : ℕ) → tier < l.tier → is_hole (row_of l.fn.self) l.fn.structure l.fn.period tier ≡ false

use Rattle.d_urdb.specs.Shown.{row_of}
use Rattle.d_urdb.specs.Refusals.{each}
use Rattle.d_urdb.specs.Checks.{Passes, tier_refusals}
use Rattle.d_urdb.proofs.row.Record.check_tiers.Given as goal

abbrev pub invariant-loop-tier : goal.invariant-loop-tier
invariant-loop-tier l = Passes (λ reader. each l.tier (tier_refusals l.fn.rule reader (row_of l.fn.self) l.fn.structure l.fn.period))

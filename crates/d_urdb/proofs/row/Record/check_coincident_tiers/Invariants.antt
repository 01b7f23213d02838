use Rattle.d_urdb.specs.Checks.{Passes}
use Rattle.d_urdb.specs.Refusals.{each}
use Rattle.d_urdb.specs.Shown.{row_of}
use Rattle.d_urdb.proofs.CoincidentFacts.{by_tier}
use Rattle.d_urdb.proofs.row.Record.check_coincident_tiers.Given as goal

abbrev pub invariant-loop-tier : goal.invariant-loop-tier
invariant-loop-tier l = Passes (λ reader. each l.tier (by_tier l.fn.rule (row_of l.fn.self) l.fn.period reader))

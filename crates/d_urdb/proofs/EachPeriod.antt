-- The checks of a structure's periods, one after the other.
use Rattle.std.proofs.Common.{ℕ, ◌+◌, ◌<◌, List, Option, Err}
use Rattle.std.specs.Bool.{⊤}
use Rattle.d_urdb.specs.declared.fault.Refused.{Refused}
use Rattle.d_urdb.specs.declared.fault.RecordFault.{RecordFault}
use Rattle.d_urdb.specs.declared.fault.RecordFault.TheVariants as fault
use Rattle.d_columns.specs.declared.names.Structure.{Structure}
use Rattle.d_urdb.specs.Numbers.{CellReader}
use Rattle.d_urdb.specs.Refusals.{each}
use Rattle.d_columns.specs.Tiers.{Row}
use Rattle.d_urdb.specs.Periods.{period_refusals}
use Rattle.d_urdb.specs.Checks.{Passes, ChecksOrNot}
use Rattle.d_urdb.proofs.RefusalOrder.{none_yet, one_more, refused_here}

-- the refusals of a period by its number
abbrev pub by_period : Row → Structure → CellReader → ℕ → List (Option Refused)
by_period row structure reader = period_refusals reader row structure

-- no period is looked at yet
pub periods_yet : (row : Row) (structure : Structure) → Passes (λ reader. each 0 (by_period row structure reader))
periods_yet row structure = none_yet (by_period row structure)

-- one more period passes
pub one_period : (row : Row) (structure : Structure) (period : ℕ) → Passes (λ reader. each period (by_period row structure reader))
    → Passes (λ reader. by_period row structure reader period) → Passes (λ reader. each (period + 1) (by_period row structure reader))
one_period row structure period before here = one_more period (by_period row structure) before here

-- a period is refused where those before it pass
pub period_refuses : (row : Row) (structure : Structure) (period : ℕ) (found : RecordFault) → period < 36
    → Passes (λ reader. each period (by_period row structure reader)) → ChecksOrNot {A = ⊤} (λ reader. by_period row structure reader period) (Err found)
    → ChecksOrNot {A = ⊤} (λ reader. each 36 (by_period row structure reader)) (Err found)
period_refuses row structure period (fault.Refused refused) within before here = refused_here 36 period (by_period row structure) refused within before here
period_refuses row structure period fault.Memory within before here = tt

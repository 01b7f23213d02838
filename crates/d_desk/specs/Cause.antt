-- Why a call on a desk may answer a failure. A desk counts its faults in a number that never falls.
use Rattle.std.specs.Prelude.{ℕ, ◌+◌, ◌-◌, ◌^◌, ◌≤◌, min, Result, IsErrOf}
use Rattle.d_desk.specs.declared.fault.DeskFault.{DeskFault}
use Rattle.d_desk.specs.declared.fault.DeskFault.TheVariants.{Failed}

-- the count is greater now than before, or stands at its last value
abbrev pub Rose : ℕ → ℕ → Type 0
Rose before now = min (before + 1) (2 ^ 64 - 1) ≤ now

-- the count didn't fall, and it rose where the call answered a failure
pub record HasCause {T : Type 0} (before now : ℕ) (result : Result T DeskFault) : Type 0 where
  pub later : before ≤ now
  pub failed : IsErrOf result Failed → Rose before now

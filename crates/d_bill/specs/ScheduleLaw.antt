-- What holds of all schedule files.
use Rattle.std.specs.Prelude.{◌≡◌, ◌⊎◌, ℕ, List}
use Rattle.d_bill.specs.declared.schedule.ScheduleFault.{ScheduleFault}
use Rattle.d_bill.specs.Inputs.{Inputs}
use Rattle.d_batt.specs.Storage.{IsStorage}
use Rattle.d_bill.specs.ScheduleFile.{IsScheduleFile, IsScheduleFault}

-- the rows are one schedule, and nothing is wrong with them
pub record HasOneSchedule (i : Inputs) (rows : List (List (List ℕ))) : Type 0 where
  pub schedule : List ℕ
  pub is : IsScheduleFile i rows schedule
  pub only : (other : List ℕ) → IsScheduleFile i rows other → other ≡ schedule
  pub right : (fault : ScheduleFault) → ¬ IsScheduleFault i rows fault

-- one thing is wrong with the rows, and they are no schedule
pub record HasOneFault (i : Inputs) (rows : List (List (List ℕ))) : Type 0 where
  pub fault : ScheduleFault
  pub is : IsScheduleFault i rows fault
  pub only : (other : ScheduleFault) → IsScheduleFault i rows other → other ≡ fault
  pub none : (schedule : List ℕ) → ¬ IsScheduleFile i rows schedule

-- a table is one schedule of a month and its battery, or is refused for one cause
abbrev pub IsReadOnce : Type 0
IsReadOnce = (i : Inputs) (rows : List (List (List ℕ))) → IsStorage i.storage → HasOneSchedule i rows ⊎ HasOneFault i rows

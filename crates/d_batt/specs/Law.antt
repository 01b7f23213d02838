-- What holds of all battery files, whoever reads them.
use Rattle.std.specs.Prelude.{◌≡◌, ℕ, List, Result, Ok}
use Rattle.d_batt.specs.declared.fault.BatteryFault.{BatteryFault}
use Rattle.d_batt.specs.Storage.{Storage, IsStorage}
use Rattle.d_batt.specs.BatteryFile.{IsOutcome}

-- each file has one outcome, and no other
abbrev pub HasOneOutcome : Type 0
HasOneOutcome =
    (rows : List (List (List ℕ)))
    → (outcome : Result Storage BatteryFault) × IsOutcome rows outcome
    × ((other : Result Storage BatteryFault) → IsOutcome rows other → other ≡ outcome)

-- what is accepted is a battery
abbrev pub AcceptsBatteries : Type 0
AcceptsBatteries = (rows : List (List (List ℕ))) (storage : Storage) → IsOutcome rows (Ok storage) → IsStorage storage

-- What a check of a battery file says of its refusals, whichever way the cells are read.
use Rattle.std.specs.Prelude.{◌≡◌, ◌⊎◌, List, Option, None, Some, Result, Ok, Err}
use Rattle.d_list.specs.Firsts.{first_of}
use Rattle.d_batt.specs.declared.fault.BatteryFault.{BatteryFault}
use Rattle.d_batt.specs.declared.fault.BatteryFault.TheVariants.{Memory}
use Rattle.d_batt.specs.Numbers.{Reader, IsReader}

-- none of these refusals comes
abbrev pub Passes : (Reader → List (Option BatteryFault)) → Type 0
Passes refusals = (reader : Reader) → IsReader reader → first_of (refusals reader) ≡ None

-- this is the first of these refusals that comes
abbrev pub Refuses : (Reader → List (Option BatteryFault)) → BatteryFault → Type 0
Refuses refusals fault = (reader : Reader) → IsReader reader → first_of (refusals reader) ≡ Some fault

-- a check goes through only where none of these refusals comes, and else answers the first, or that memory was wanted
abbrev pub Checks : {A : Type 0} → (Reader → List (Option BatteryFault)) → Result A BatteryFault → Type 0
Checks refusals (Ok value) = Passes refusals
Checks refusals (Err fault) = (fault ≡ Memory) ⊎ Refuses refusals fault

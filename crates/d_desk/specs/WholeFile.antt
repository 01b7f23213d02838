-- What reading a whole file does to a desk's scene.
use Rattle.std.specs.Prelude.{◌≡◌, ℕ, ◌<◌, List, [], ◌∷◌, length, Result, Ok, Err, Vec, IfOk, IsErrOf}
use Rattle.std.specs.declared.alloc.Global.{Global}
use Rattle.d_desk.specs.declared.fault.DeskFault.{DeskFault}
use Rattle.d_desk.specs.declared.fault.DeskFault.TheVariants as desk
use Rattle.d_desk.specs.declared.load.LoadFault.{LoadFault}
use Rattle.d_desk.specs.declared.load.LoadFault.TheVariants.{Failed, TooLong, Memory}
use Rattle.d_desk.specs.declared.opened.Direction.TheVariants.{In}
use Rattle.d_desk.specs.Scene.{Scene, opening, bytes_in}
use Rattle.d_desk.specs.Stages.{Opens, OpensSome}

-- the file of that name alone was opened; where memory was wanting perhaps not even that
abbrev pub LoadOpens : List ℕ → Scene → Scene → Result (Vec ℕ Global) LoadFault → Type 0
LoadOpens name before now (Ok bytes) = Opens (opening In name ∷ []) before now
LoadOpens name before now (Err Failed) = Opens (opening In name ∷ []) before now
LoadOpens name before now (Err TooLong) = Opens (opening In name ∷ []) before now
LoadOpens name before now (Err Memory) = OpensSome (opening In name ∷ []) before now

-- the bytes are the file's, and only a file above the limit is too long
pub record Loads (name : List ℕ) (limit : ℕ) (before now : Scene) (result : Result (Vec ℕ Global) LoadFault) : Type 0 where
  pub bytes : IfOk result (λ bytes. bytes.items ≡ bytes_in before.files name)
  pub too_long : IsErrOf result TooLong → limit < length (bytes_in before.files name)
  pub opens : LoadOpens name before now result

-- a desk's fault, as loading answers it
abbrev pub load_fault_of : DeskFault → LoadFault
load_fault_of desk.Failed = Failed
load_fault_of desk.Memory = Memory

-- What each of a desk's six calls does to its scene, one field a fact.
use Rattle.std.specs.Prelude.{◌≡◌, ℕ, ◌<◌, List, [], ◌∷◌, ◌++◌, length, take, Some, Result, Ok, Err, OnOk, OnErr, IfOk, bytes_eq}
use Rattle.std.specs.Map.{update}
use Rattle.d_desk.specs.declared.fault.DeskFault.{DeskFault}
use Rattle.d_desk.specs.declared.fault.DeskFault.TheVariants.{Failed, Memory}
use Rattle.d_desk.specs.declared.opened.Direction.TheVariants.{In, Out}
use Rattle.d_desk.specs.Scene.{Scene, Opening, opening, bytes_in, output_name}

-- an opening is listed unless memory was wanting
abbrev pub opened_after : Result (Unit {0}) DeskFault → Opening → List Opening → List Opening
opened_after (Ok u) o openings = openings ++ o ∷ []
opened_after (Err Failed) o openings = openings ++ o ∷ []
opened_after (Err Memory) o openings = openings

-- the front of the part that a call took
abbrev pub taken_of : Result ℕ DeskFault → List ℕ → List ℕ
taken_of (Ok n) part = take n part
taken_of (Err e) part = []

-- the file of that name is open for reading, from its first byte
pub record OpensIn (name : List ℕ) (before now : Scene) (result : Result (Unit {0}) DeskFault) : Type 0 where
  pub left : OnOk result (now.left ≡ bytes_in before.files name)
  pub files : now.files ≡ before.files
  pub saved : now.saved ≡ before.saved
  pub printed : now.printed ≡ before.printed
  pub opened : now.opened ≡ opened_after result (opening In name) before.opened

-- the next bytes stand at the front of the room; none into a room that isn't empty only at the file's end
pub record Reads (room : List ℕ) (before now : Scene) (result : Result ℕ DeskFault) : Type 0 where
  pub left : IfOk result (λ n. before.left ≡ take n room ++ now.left)
  pub ended : IfOk result (λ n. n ≡ 0 → 0 < length room → before.left ≡ [])
  pub files : now.files ≡ before.files
  pub saved : now.saved ≡ before.saved
  pub printed : now.printed ≡ before.printed
  pub opened : now.opened ≡ before.opened

-- an output has begun that has taken nothing yet
pub record OpensOut (name : List ℕ) (before now : Scene) (result : Result (Unit {0}) DeskFault) : Type 0 where
  pub saved : OnOk result (now.saved ≡ [])
  pub saved_err : OnErr result (now.saved ≡ before.saved)
  pub files : now.files ≡ before.files
  pub left : now.left ≡ before.left
  pub printed : now.printed ≡ before.printed
  pub opened : now.opened ≡ opened_after result (opening Out name) before.opened

-- the open output has taken a front of the part
pub record Saves (part : List ℕ) (before now : Scene) (result : Result ℕ DeskFault) : Type 0 where
  pub saved : now.saved ≡ before.saved ++ taken_of result part
  pub files : now.files ≡ before.files
  pub left : now.left ≡ before.left
  pub printed : now.printed ≡ before.printed
  pub opened : now.opened ≡ before.opened

-- what the output has taken is now the file under its name, and every other file is as before
pub record ClosesOut (before now : Scene) (result : Result (Unit {0}) DeskFault) : Type 0 where
  pub files : OnOk result (now.files ≡ update bytes_eq before.files (output_name before.opened) (Some before.saved))
  pub files_err : OnErr result (now.files ≡ before.files)
  pub left : now.left ≡ before.left
  pub saved : now.saved ≡ before.saved
  pub printed : now.printed ≡ before.printed
  pub opened : now.opened ≡ before.opened

-- a front of the part is printed
pub record Prints (part : List ℕ) (before now : Scene) (result : Result ℕ DeskFault) : Type 0 where
  pub printed : now.printed ≡ before.printed ++ taken_of result part
  pub files : now.files ≡ before.files
  pub left : now.left ≡ before.left
  pub saved : now.saved ≡ before.saved
  pub opened : now.opened ≡ before.opened

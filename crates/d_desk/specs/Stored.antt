-- How what a desk in memory stores is read as its scene.
use Rattle.std.specs.Prelude.{◌≡◌, List, map, option_map, Vec, String, string_bytes, ℕ, Result}
use Rattle.std.specs.BTreeMap.{BTreeMap, get_by_text}
use Rattle.std.specs.declared.alloc.Global.{Global}
use Rattle.d_desk.specs.declared.fault.DeskFault.{DeskFault}
use Rattle.d_desk.specs.declared.opened.Opened.{Opened}
use Rattle.d_desk.specs.Scene.{Files, Opening, Scene, opening}
use Rattle.d_desk.specs.Calls.{opened_after}

-- the files that a map from names to bytes holds
abbrev pub files_of : BTreeMap (String Global) (Vec ℕ Global) → Files
files_of stored = λ name. option_map (λ bytes. bytes.items) (get_by_text stored name)

-- the openings that a list of them tells
abbrev pub openings_of : List Opened → List Opening
openings_of listed = map (λ o. opening o.way (string_bytes o.name)) listed

-- an opening is listed unless memory was wanting, and nothing else has changed
pub record Lists (o : Opening) (before now : Scene) (result : Result (Unit {0}) DeskFault) : Type 0 where
  pub opened : now.opened ≡ opened_after result o before.opened
  pub files : now.files ≡ before.files
  pub left : now.left ≡ before.left
  pub saved : now.saved ≡ before.saved
  pub printed : now.printed ≡ before.printed

-- All that a desk in memory tells.
use Rattle.std.specs.Prelude.{ℕ, List, [], Bool, false, Some, None, bytes_eq}
use Rattle.std.specs.Map.{update}
use Rattle.d_desk.specs.Scene.{Files, Scene}

-- the scene, what is open, how much of the input was read, how much one call moves at most, and how many calls failed
pub record State : Type 0 where
  pub scene : Scene
  pub input_open : Bool
  pub output_open : Bool
  -- the bytes read since the last opening for reading
  pub taken : ℕ
  pub faults : ℕ

-- no name has a file
abbrev pub no_files : Files
no_files = λ name. None

-- no file, and nothing read, saved, printed or opened
abbrev pub blank_scene : Scene
blank_scene = record { files = no_files; left = []; saved = []; printed = []; opened = [] }

-- a desk on which nothing was done yet
abbrev pub new_state : State
new_state = record { scene = blank_scene; input_open = false; output_open = false; taken = 0; faults = 0 }

-- the scene with these bytes as the file of that name, and all else as it was
abbrev pub with_file : List ℕ → List ℕ → Scene → Scene
with_file name bytes s = record s { files = update bytes_eq s.files name (Some bytes) }

-- the state with these bytes as the file of that name, and all else as it was
abbrev pub put_in_state : List ℕ → List ℕ → State → State
put_in_state name bytes s = record s { scene = with_file name bytes s.scene }

-- What a desk tells of the world that it stands for.
use Rattle.std.specs.Prelude.{ℕ, List, [], Option, unwrap_or, fold}
use Rattle.d_desk.specs.declared.opened.Direction.{Direction}
use Rattle.d_desk.specs.declared.opened.Direction.TheVariants.{In, Out}

-- the bytes under each name, or nothing where there is no such file
abbrev pub Files : Type 0
Files = List ℕ → Option (List ℕ)

-- a file's bytes; a file that isn't there reads as an empty one
abbrev pub bytes_in : Files → List ℕ → List ℕ
bytes_in files name = unwrap_or (files name) []

-- one opening of a file, for reading or for writing
pub record Opening : Type 0 where
  pub way : Direction
  pub name : List ℕ

-- an opening of that way and name
abbrev pub opening : Direction → List ℕ → Opening
opening w n = record { way = w; name = n }

-- what a desk is about: its files, what is left to read of the open input, what the last output has taken, all that was printed, and
-- all openings in order
pub record Scene : Type 0 where
  -- the files
  pub files : Files
  -- what is unread of the open input
  pub left : List ℕ
  -- what the open output has taken
  pub saved : List ℕ
  -- all that was printed
  pub printed : List ℕ
  -- the openings so far, in order
  pub opened : List Opening

-- the name of an opening for writing, in place of the other
abbrev pub name_if_out : Direction → List ℕ → List ℕ → List ℕ
name_if_out Out name other = name
name_if_out In name other = other

-- the name of the last opening for writing; empty where there was none
abbrev pub output_name : List Opening → List ℕ
output_name openings = fold (λ name o. name_if_out o.way o.name name) [] openings

-- What is kept in memory, as a desk tells it.
use Rattle.std.specs.Prelude.{ℕ, drop}
use Rattle.d_desk.specs.declared.kept.Kept.{Kept}
use Rattle.d_desk.specs.Scene.{Scene}
use Rattle.d_desk.specs.State.{State}
use Rattle.d_desk.specs.Stored.{files_of, openings_of}

-- the five things that it tells
abbrev pub kept_scene : Kept → Scene
kept_scene k = record {
  files = files_of k.files;
  left = drop k.at k.input.items;
  saved = k.saved.items;
  printed = k.printed.items;
  opened = openings_of k.openings.items;
}

-- with a count of faults that stands beside it
abbrev pub kept_state : ℕ → Kept → State
kept_state count k = record {
  scene = kept_scene k;
  input_open = k.reading;
  output_open = k.writing;
  taken = k.taken;
  faults = count;
}

-- What a stage of a program does to a desk's scene: it opens files, prints, saves into the open output, or writes a file.
-- Each comes whole, or cut short after a front of it.
use Rattle.std.specs.Prelude.{◌≡◌, ℕ, ◌⊎◌, List, [], ◌∷◌, ◌++◌, Some, bytes_eq}
use Rattle.std.specs.Map.{update}
use Rattle.d_desk.specs.declared.opened.Direction.TheVariants.{Out}
use Rattle.d_desk.specs.Front.{IsFront, GainsFront}
use Rattle.d_desk.specs.Scene.{Scene, Opening, opening}

-- these openings were made, and nothing was saved, closed or printed
pub record Opens (openings : List Opening) (before now : Scene) : Type 0 where
  pub opened : now.opened ≡ before.opened ++ openings
  pub files : now.files ≡ before.files
  pub saved : now.saved ≡ before.saved
  pub printed : now.printed ≡ before.printed

-- a front of these openings was made, and nothing was saved, closed or printed
pub record OpensSome (openings : List Opening) (before now : Scene) : Type 0 where
  pub opened : GainsFront before.opened now.opened openings
  pub files : now.files ≡ before.files
  pub saved : now.saved ≡ before.saved
  pub printed : now.printed ≡ before.printed

-- the text was printed, and nothing else changed
pub record PrintsOnly (text : List ℕ) (before now : Scene) : Type 0 where
  pub printed : now.printed ≡ before.printed ++ text
  pub files : now.files ≡ before.files
  pub left : now.left ≡ before.left
  pub saved : now.saved ≡ before.saved
  pub opened : now.opened ≡ before.opened

-- a front of the text was printed, and nothing else changed
pub record PrintsFront (text : List ℕ) (before now : Scene) : Type 0 where
  pub printed : GainsFront before.printed now.printed text
  pub files : now.files ≡ before.files
  pub left : now.left ≡ before.left
  pub saved : now.saved ≡ before.saved
  pub opened : now.opened ≡ before.opened

-- the open output has taken the text, and nothing else changed
pub record SavesOnly (text : List ℕ) (before now : Scene) : Type 0 where
  pub saved : now.saved ≡ before.saved ++ text
  pub files : now.files ≡ before.files
  pub left : now.left ≡ before.left
  pub printed : now.printed ≡ before.printed
  pub opened : now.opened ≡ before.opened

-- the open output has taken a front of the text, and nothing else changed
pub record SavesFront (text : List ℕ) (before now : Scene) : Type 0 where
  pub saved : GainsFront before.saved now.saved text
  pub files : now.files ≡ before.files
  pub left : now.left ≡ before.left
  pub printed : now.printed ≡ before.printed
  pub opened : now.opened ≡ before.opened

-- an output of that name has begun that has taken nothing yet, and nothing was closed or printed
pub record Begins (name : List ℕ) (before now : Scene) : Type 0 where
  pub opened : now.opened ≡ before.opened ++ opening Out name ∷ []
  pub saved : now.saved ≡ []
  pub files : now.files ≡ before.files
  pub printed : now.printed ≡ before.printed

-- the text is now the file of that name: its output was begun, took the text and was closed
pub record Writes (name text : List ℕ) (before now : Scene) : Type 0 where
  pub opened : now.opened ≡ before.opened ++ opening Out name ∷ []
  pub saved : now.saved ≡ text
  pub files : now.files ≡ update bytes_eq before.files name (Some text)
  pub printed : now.printed ≡ before.printed

-- the writing was cut short: no file changed, and an output that was begun has taken a front of the text
pub record WritesFront (name text : List ℕ) (before now : Scene) : Type 0 where
  pub opened : GainsFront before.opened now.opened (opening Out name ∷ [])
  pub saved : (now.saved ≡ before.saved) ⊎ IsFront now.saved text
  pub files : now.files ≡ before.files
  pub printed : now.printed ≡ before.printed

-- What the writing of a text does to a desk's scene. It is our own rule.
use Rattle.std.specs.Prelude.{ℕ, List, Result, Ok, Err}
use Rattle.d_desk.specs.declared.fault.DeskFault.{DeskFault}
use Rattle.d_desk.specs.Scene.{Scene}
use Rattle.d_desk.specs.Stages.{SavesOnly, SavesFront}

-- the open output has taken the text, or a front of it where the writing was cut short, and nothing else changed
abbrev pub SavesText : List ℕ → Scene → Scene → Result (Unit {0}) DeskFault → Type 0
SavesText text before now (Ok done) = SavesOnly text before now
SavesText text before now (Err fault) = SavesFront text before now

-- Names and cells of files as they are shown. All forms are our own.
use Rattle.std.specs.Prelude.{ℕ, ◌&&◌, nat_le, List, [], ◌∷◌, map, take, if◌then◌else◌}

-- a byte of a file as it is shown: as it is where it is printable ASCII, else a question mark
abbrev pub shown_byte : ℕ → ℕ
shown_byte byte = if nat_le 32 byte && nat_le byte 126 then byte else 63

-- a name or a cell of a file as it is shown: 60 bytes of it at most
abbrev pub shown : List ℕ → List ℕ
shown cell = map shown_byte (take 60 cell)

-- a cell behind the other parts of a line: a blank and the cell, or nothing where it is empty
abbrev pub behind_blank : List ℕ → List ℕ
behind_blank [] = []
behind_blank (byte ∷ rest) = 32 ∷ shown (byte ∷ rest)

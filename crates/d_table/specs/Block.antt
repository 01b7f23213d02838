-- A block of cells, and its rows.
use Rattle.std.specs.Prelude.{◌≡◌, ℕ, zero, suc, List, [], ◌∷◌, take, drop}
use Rattle.csv.specs.Records.{Rising, last_end}

-- the places at which the cells end rise, and the last of them is the end of the bytes
pub record IsCut (ends : List ℕ) (size : ℕ) : Type 0 where
  pub rising : Rising 0 ends size
  pub whole : last_end 0 ends ≡ size

-- the first rows of a block of cells, so many, and of so many cells each
abbrev pub block_rows : ℕ → ℕ → List (List ℕ) → List (List (List ℕ))
block_rows width zero cells = []
block_rows width (suc count) cells = take width cells ∷ block_rows width count (drop width cells)

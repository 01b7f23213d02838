-- A block of entries as its rows, and what a write to one of them changes.
use Rattle.std.specs.Prelude.{ℕ, zero, suc, List, [], ◌∷◌, length, take, drop, set, slice_index_or}
use Rattle.std.specs.List.{refill}
use Rattle.d_num.specs.declared.pot.Pot.{Pot}

-- the first `count` rows of a block, each of `width` entries
abbrev pub block_rows : {X : Type 0} → ℕ → ℕ → List X → List (List X)
block_rows width zero block = []
block_rows width (suc count) block = take width block ∷ block_rows width count (drop width block)

-- the rows with what was written in the place of row t. A list of another length is cut, or filled up with what was there
abbrev pub with_row : List (List Pot) → ℕ → List Pot → List (List Pot)
with_row rows t ws =
    set rows t (refill (length (slice_index_or rows t [])) (slice_index_or rows t []) ws)

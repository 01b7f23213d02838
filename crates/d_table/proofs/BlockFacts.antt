-- The rows of a block of cells.
use Rattle.std.proofs.Common.{◌≡◌, ◌∙◌, ℕ, zero, suc, ◌+◌, ◌-◌, ◌*◌, ◌≤◌, ◌<◌, List, [], ◌∷◌, ◌++◌, length, get_or, take, drop, refl, sym, ap, arith, suc-mul, drop-drop, length-take-le, length-drop, length-append, mul-le-mul_right}
use native.Mathlib.Nat.{zero-mul}
use Rattle.std.proofs.lemmas.List.{get_or_append_left, get_or_default, get_or-take, get_or-drop, take_all, take-append-le, drop-append-le}
use Rattle.std.proofs.Math.Seq.{drop-append_seam}
use Rattle.csv.specs.Records.{Rising, cut_from, last_end, prev}
use Rattle.csv.proofs.RecordFacts.{cut-end, cut-more, field-bounds, field-cut, field-get, last-append, prev-next, rising-end, rising-more}
use Rattle.d_table.specs.Table.{row_at, cell_in, IsRectangular}
use Rattle.d_table.specs.Block.{IsCut, block_rows}

pub length-block_rows : (w n : ℕ) (b : List (List ℕ)) → length (block_rows w n b) ≡ n
length-block_rows w zero b = refl
length-block_rows w (suc n) b = ap suc (length-block_rows w n (drop w b))

-- a row, as a part of the block
block_row : (w n t : ℕ) (b : List (List ℕ)) → t < n → row_at (block_rows w n b) t ≡ take w (drop (t * w) b)
block_row w zero t b lt = absurd (omega (arith, lt))
block_row w (suc n) zero b lt = ap (λ (k : ℕ). take w (drop k b)) (sym (zero-mul w))
block_row w (suc n) (suc t) b lt =
    let e : w + t * w ≡ suc t * w = omega (arith, suc-mul t w) in
    block_row w n t (drop w b) (omega (arith, lt)) ∙ ap (take w) (drop-drop (t * w) w b ∙ ap (λ (k : ℕ). drop k b) e)

-- each row has the block's width
pub block_width : (w n t : ℕ) (b : List (List ℕ)) → length b ≡ n * w → t < n → length (row_at (block_rows w n b) t) ≡ w
block_width w n t b full lt =
    let m : suc t * w ≤ n * w = mul-le-mul_right w (omega (arith, lt)) in
    rw (block_row w n t b lt) (length-take-le w (drop (t * w) b) (omega (arith, suc-mul t w, length-drop (t * w) b, full)))

-- so all rows are as long as the first
pub block_rectangular : (w n : ℕ) (b : List (List ℕ)) → length b ≡ n * w → IsRectangular (block_rows w n b)
block_rectangular w n b full t d lt =
    let within : t < n = omega (arith, lt, length-block_rows w n b) in
    ap (λ (row : List (List ℕ)). length row) (get_or_default (block_rows w n b) t d [] lt)
    ∙ block_width w n t b full within ∙ sym (block_width w n 0 b full (omega arith))

-- where a cell stands in the block
pub block_place : (w n t column : ℕ) (b : List (List ℕ)) → length b ≡ n * w → t < n → column < w → t * w + column < length b
block_place w n t column b full lt within =
    let m : suc t * w ≤ n * w = mul-le-mul_right w (omega (arith, lt)) in
    omega (arith, suc-mul t w, full)

-- a cell, as one of the block's
pub block_cell : (w n t column : ℕ) (b : List (List ℕ)) → t < n → column < w → get_or b (t * w + column) [] ≡ cell_in (row_at (block_rows w n b) t) column
block_cell w n t column b lt within =
    rw (block_row w n t b lt) (sym (get_or-take w (drop (t * w) b) column [] within ∙ get_or-drop (t * w) b column []))

-- the cells of one more row
pub block_more : (w n : ℕ) (b row : List (List ℕ)) → length b ≡ n * w → length row ≡ w → block_rows w (suc n) (b ++ row) ≡ block_rows w n b ++ row ∷ []
block_more w zero [] row full long = ap (λ (r : List (List ℕ)). r ∷ []) (take_all w row (omega arith))
block_more w zero (cell ∷ b) row full long = absurd (omega (arith, full, zero-mul w))
block_more w (suc n) b row full long =
    let within : w ≤ length b = omega (arith, full, suc-mul n w) in
    let rest : length (drop w b) ≡ n * w = omega (arith, full, suc-mul n w, length-drop w b) in
    rw (take-append-le w b row within, drop-append-le w b row within)
    (ap (λ (rows : List (List (List ℕ))). take w b ∷ rows) (block_more w n (drop w b) row rest long))

-- where the cells end, with one more
pub cut_more : (ends bytes cell : List ℕ) (end : ℕ) → IsCut ends (length bytes) → end ≡ length bytes + length cell → IsCut (ends ++ end ∷ []) (length (bytes ++ cell))
cut_more ends bytes cell end cut is =
    let size : end ≡ length (bytes ++ cell) = omega (arith, is, length-append bytes cell) in
    rw size (record {
      rising = rising-end 0 ends (length (bytes ++ cell)) (rising-more 0 ends (length bytes) (length (bytes ++ cell)) cut.rising (omega (arith, length-append bytes cell)));
      whole = last-append 0 ends (length (bytes ++ cell));
    })

-- the cells, with one more
pub cells_more : (ends bytes cell : List ℕ) (end : ℕ) → IsCut ends (length bytes) → end ≡ length bytes + length cell
    → cut_from 0 (ends ++ end ∷ []) (bytes ++ cell) ≡ cut_from 0 ends bytes ++ cell ∷ []
cells_more ends bytes cell end cut is =
    let size : end ≡ length (bytes ++ cell) = omega (arith, is, length-append bytes cell) in
    let rising : Rising 0 ends (length (bytes ++ cell)) = rising-more 0 ends (length bytes) (length (bytes ++ cell)) cut.rising (omega (arith, length-append bytes cell)) in
    let last : drop (last_end 0 ends) (bytes ++ cell) ≡ cell = ap (λ (k : ℕ). drop k (bytes ++ cell)) cut.whole ∙ drop-append_seam bytes cell in
    rw size (cut-end 0 ends (bytes ++ cell) rising ∙ rw (last, cut-more 0 ends bytes cell cut.rising) refl)

-- the place before which a cell begins, and where it ends
pub cell_bounds : (ends bytes : List ℕ) (place : ℕ) → IsCut ends (length bytes) → place < length ends
    → (prev 0 ends place ≤ get_or ends place 0) × (get_or ends place 0 ≤ length bytes)
cell_bounds ends bytes place cut within = field-bounds 0 ends (length bytes) place cut.rising within

-- a cell is the bytes between them
pub cell_bytes : (ends bytes : List ℕ) (place : ℕ) → place < length ends
    → get_or (cut_from 0 ends bytes) place [] ≡ take (get_or ends place 0 - prev 0 ends place) (drop (prev 0 ends place) bytes)
cell_bytes ends bytes place within = field-get (cut_from 0 ends bytes) place _ (field-cut 0 ends bytes place within)

-- a cell that isn't the first begins where the one before it ends
pub prev_before : (ends : List ℕ) (place : ℕ) → (place ≡ 0 → ⊥) → place < length ends → get_or ends (place - 1) 0 ≡ prev 0 ends place
prev_before ends zero other within = absurd (other refl)
prev_before ends (suc place) other within =
    let next : place + 1 ≡ suc place = omega arith in
    let back : suc place - 1 ≡ place = omega arith in
    ap (λ (k : ℕ). get_or ends k 0) back ∙ sym (prev-next 0 ends place 0 (omega (arith, within))) ∙ ap (prev 0 ends) next

-- what is known of a block with the cells of one more row, as a table's
pub record IsLonger (w n m : ℕ) (b row : List (List ℕ)) (table : List (List (List ℕ))) : Type 0 where
  pub full : length (b ++ row) ≡ m * w
  pub rows : block_rows w m (b ++ row) ≡ table ++ row ∷ []
  pub first : row_at (block_rows w m (b ++ row)) 0 ≡ row_at (block_rows w n b) 0

pub longer : (w n m : ℕ) (b row : List (List ℕ)) (table : List (List (List ℕ))) → block_rows w n b ≡ table → length b ≡ n * w → 0 < length table
    → length row ≡ length (row_at table 0) → m ≡ n + 1 → IsLonger w n m b row table
longer w n m b row table is full there long more =
    let count : n ≡ length table = sym (length-block_rows w n b) ∙ ap length is in
    let wide : length row ≡ w = long ∙ ap (λ (rows : List (List (List ℕ))). length (row_at rows 0)) (sym is) ∙ block_width w n 0 b full (omega arith) in
    let next : m ≡ suc n = omega arith in
    let rows : block_rows w m (b ++ row) ≡ table ++ row ∷ [] =
    ap (λ (k : ℕ). block_rows w k (b ++ row)) next ∙ block_more w n b row full wide ∙ ap (λ (rows : List (List (List ℕ))). rows ++ row ∷ []) is in
    record {
      full = rw next (omega (arith, length-append b row, full, wide, suc-mul n w));
      rows = rows;
      first = ap (λ (rows : List (List (List ℕ))). row_at rows 0) rows ∙ get_or_append_left table (row ∷ []) [] 0 there
          ∙ ap (λ (rows : List (List (List ℕ))). row_at rows 0) (sym is);
    }

-- a table whose first row has a cell has a row
pub first_there : (w n : ℕ) (b : List (List ℕ)) (table : List (List (List ℕ))) (column : ℕ) → block_rows w n b ≡ table → column < length (row_at table 0) → 0 < n
first_there w n b [] column is within = absurd (omega (arith, within))
first_there w n b (row ∷ rows) column is within = omega (arith, length-block_rows w n b, ap length is)

-- the first row has the block's width
pub first_width : (w n : ℕ) (b : List (List ℕ)) (table : List (List (List ℕ))) → block_rows w n b ≡ table → length b ≡ n * w → 0 < n → length (row_at table 0) ≡ w
first_width w n b table is full there = ap (λ (rows : List (List (List ℕ))). length (row_at rows 0)) (sym is) ∙ block_width w n 0 b full there

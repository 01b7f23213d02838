-- A file whose rows differ in length.
use Rattle.std.proofs.Common.{ℕ, ◌+◌, List, []}
use Rattle.d_table.specs.Table.{IsRectangular, IsFirstOdd}

-- rows of one length have no odd row
pub no_odd : (rows : List (List (List ℕ))) (row : ℕ) → IsRectangular rows → IsFirstOdd rows row → ⊥
no_odd rows row even odd = odd.odd (even (row + 1) [] odd.there)

-- What a write through a lent row leaves.
use Rattle.std.proofs.Common.{◌≡◌, ℕ, List, [], length, get_or, set, ap}
use Rattle.std.proofs.VecSteps.Gaps.{all_new}
use Rattle.d_num.specs.declared.pot.Pot.{Pot}
use Rattle.d_rows.specs.Blocks.{with_row}

-- a row of its width replaces the old one, and all others stay
pub with_row_is : (rows : List (List Pot)) (t : ℕ) (ws : List Pot) → length ws ≡ length (get_or rows t []) → with_row rows t ws ≡ set rows t ws
with_row_is rows t ws e = ap (set rows t) (all_new (length (get_or rows t [])) (get_or rows t []) ws e)

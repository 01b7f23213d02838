-- Whether a cell is filled, by its length.
use Rattle.std.proofs.Common.{◌≡◌, ◌==◌, ℕ, suc, true, false, List, [], ◌∷◌, length, arith, refl}
use Rattle.std.proofs.lemmas.Bool.Decides.{nat_tests}
use Rattle.d_columns.specs.Tiers.{is_filled}

-- a cell of some bytes is filled
pub filled_cell : (cell : List ℕ) → false ≡ (length cell == 0) → is_filled cell ≡ true
filled_cell [] some = cc
filled_cell (byte ∷ bytes) some = refl

-- a cell of no bytes isn't filled
pub empty_cell : (cell : List ℕ) → true ≡ (length cell == 0) → is_filled cell ≡ false
empty_cell [] none = refl
empty_cell (byte ∷ bytes) none = absurd (some (length bytes) none)
  where
    some : (n : ℕ) → true ≡ (suc n == 0) → ⊥
    some n none = grind (arith, nat_tests)

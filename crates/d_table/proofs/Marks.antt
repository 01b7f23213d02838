-- Taking a byte order mark off.
use Rattle.std.proofs.Common.{◌≡◌, ℕ, ◌-◌, List, [], ◌∷◌, length, take, drop, arith, refl}
use Rattle.std.proofs.lemmas.List.{take_all}
use Rattle.csv.specs.Reading.{strip_bom}
use Rattle.d_table.specs.Table.{HasMark}

-- with a mark at its front a text goes on behind it
pub strip_bom-mark : (bytes : List ℕ) → HasMark bytes → strip_bom bytes ≡ take (length bytes - 3) (drop 3 bytes)
unfolding strip_bom
strip_bom-mark [] mark = absurd (omega (arith, mark.long))
strip_bom-mark (a ∷ []) mark = absurd (omega (arith, mark.long))
strip_bom-mark (a ∷ b ∷ []) mark = absurd (omega (arith, mark.long))
strip_bom-mark (a ∷ b ∷ c ∷ rest) mark =
    let first : a ≡ 0xEF = mark.first in
    let second : b ≡ 0xBB = mark.second in
    let third : c ≡ 0xBF = mark.third in
    grind (arith, take_all)

-- with no mark it stays
pub strip_bom-no_mark : (bytes : List ℕ) → (HasMark bytes → ⊥) → strip_bom bytes ≡ bytes
unfolding strip_bom
strip_bom-no_mark [] bare = refl
strip_bom-no_mark (a ∷ []) bare = refl
strip_bom-no_mark (a ∷ b ∷ []) bare = refl
strip_bom-no_mark (a ∷ b ∷ c ∷ rest) bare = grind arith

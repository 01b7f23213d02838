-- A block and its rows.
use Rattle.std.proofs.Common.{◌≡◌, ◌≢◌, ◌⊎◌, inl, inr, ◌∙◌, ℕ, zero, suc, ◌+◌, ◌-◌, ◌*◌, ◌<◌, ◌≤◌, List, [], ◌∷◌, ◌++◌, length, get_or, set, take, drop, replicate, refl, sym, ap, arith, suc-mul, append_assoc, drop-drop, take-add, length-take-le, length-drop, length-append, mul-le-mul_right, not-suc-le-zero, le_of_suc-le-suc, slice_range}
use native.Mathlib.Nat.{zero-mul}
use Rattle.std.proofs.Math.Seq.{take-append_seam, drop-append_seam}
use Rattle.std.proofs.lemmas.List.{replicate-append-replicate, length-replicate}
use Rattle.std.proofs.lemmas.Bool.{cases_lt}
use Rattle.std.proofs.VecSteps.Gaps.{all_new}
use Rattle.std.specs.List.{refill, length_refill}
use Rattle.d_num.specs.declared.pot.Pot.{Pot}
use Rattle.d_rows.specs.Blocks.{block_rows, with_row}
use Rattle.d_rows.specs.Runs.{with_run}

pub length-block_rows : {X : Type 0} (w n : ℕ) (b : List X) → length (block_rows w n b) ≡ n
length-block_rows w zero b = refl
length-block_rows w (suc n) b = ap suc (length-block_rows w n (drop w b))

rows_front : {X : Type 0} (w n : ℕ) (p c : List X) → length p ≡ w → block_rows w (suc n) (p ++ c) ≡ p ∷ block_rows w n c
rows_front {X} w n p c l =
    ap (λ (k : ℕ). take k (p ++ c) ∷ block_rows w n (drop k (p ++ c))) (sym l) ∙ ap (λ (y : List X). y ∷ block_rows w n (drop (length p) (p ++ c))) (take-append_seam p c) ∙ ap (λ (y : List X). p ∷ block_rows w n y) (drop-append_seam p c)

pub block_row : {X : Type 0} (w n t : ℕ) (b : List X) → t < n → get_or (block_rows w n b) t [] ≡ take w (drop (t * w) b)
block_row w zero t b lt = absurd (not-suc-le-zero lt)
block_row w (suc n) zero b lt = ap (λ (k : ℕ). take w (drop k b)) (sym (zero-mul w))
block_row w (suc n) (suc t) b lt =
    let e : w + t * w ≡ suc t * w = omega (arith, suc-mul t w) in
    block_row w n t (drop w b) (le_of_suc-le-suc lt) ∙ ap (take w) (drop-drop (t * w) w b ∙ ap (λ (k : ℕ). drop k b) e)

pub block_written : {X : Type 0} (w n t at : ℕ) (b r : List X) → at ≡ t * w → t < n → at + w ≤ length b → length r ≡ w
    → block_rows w n (take at b ++ (r ++ drop (at + w) b)) ≡ set (block_rows w n b) t r
block_written w zero t at b r e lt le l = absurd (not-suc-le-zero lt)
block_written {X} w (suc n) zero at b r e lt le l =
    let none : at ≡ 0 = e ∙ zero-mul w in
    let past : at + w ≡ w = omega arith in
    ap (λ (k : ℕ). block_rows w (suc n) (take k b ++ (r ++ drop (at + w) b))) none ∙ ap (λ (k : ℕ). block_rows w (suc n) (r ++ drop k b)) past ∙ rows_front w n r (drop w b) l
block_written {X} w (suc n) (suc t) at b r e lt le l =
    let k : ℕ = t * w in
    let p : List X = take w b in let c : List X = drop w b in
    let more : at ≡ w + k = omega (arith, suc-mul t w) in
    let past : at + w ≡ w + (k + w) = omega arith in
    let lp : length p ≡ w = length-take-le w b (omega arith) in
    let inner : List X = take k c ++ (r ++ drop (k + w) c) in
    let head : take at b ≡ p ++ take k c = ap (λ (j : ℕ). take j b) more ∙ take-add w k b in
    let rest : drop (at + w) b ≡ drop (k + w) c = ap (λ (j : ℕ). drop j b) past ∙ sym (drop-drop (k + w) w b) in
    let all : take at b ++ (r ++ drop (at + w) b) ≡ p ++ inner =
    ap (λ (y : List X). y ++ (r ++ drop (at + w) b)) head ∙ ap (λ (y : List X). (p ++ take k c) ++ (r ++ y)) rest ∙ append_assoc p (take k c) (r ++ drop (k + w) c) in
    let fits : k + w ≤ length c = omega (arith, length-drop w b) in
    ap (block_rows w (suc n)) all ∙ rows_front w n p inner lp ∙ ap (λ (y : List (List X)). p ∷ y) (block_written w n t k c r refl (le_of_suc-le-suc lt) fits l)

pub block_full : {X : Type 0} (w n : ℕ) (x : X) → block_rows w n (replicate (n * w) x) ≡ replicate n (replicate w x)
block_full w zero x = refl
block_full {X} w (suc n) x =
    let e : suc n * w ≡ w + n * w = omega (arith, suc-mul n w) in
    ap (λ (k : ℕ). block_rows w (suc n) (replicate k x)) e ∙ ap (block_rows w (suc n)) (sym (replicate-append-replicate w (n * w) x))
    ∙ rows_front w n (replicate w x) (replicate (n * w) x) (length-replicate w x) ∙ ap (λ (y : List (List X)). replicate w x ∷ y) (block_full w n x)

-- where row t ends
pub row_ends : {X : Type 0} (w n t : ℕ) (b : List X) (rows : List (List X)) → block_rows w n b ≡ rows → length b ≡ n * w → t < length rows → t * w + w ≤ length b
row_ends w n t b rows e l lt =
    let c : length rows ≡ n = ap length (sym e) ∙ length-block_rows w n b in
    let m : suc t * w ≤ n * w = mul-le-mul_right w (omega arith) in
    omega (arith, suc-mul t w)

-- row t, as a part of the block
pub row_part : {X : Type 0} (w n t at to : ℕ) (b : List X) (rows : List (List X)) → block_rows w n b ≡ rows → t < length rows → at ≡ t * w → to ≡ at + w → slice_range b at to ≡ get_or rows t []
row_part {X} w n t at to b rows e lt f g =
    let c : length rows ≡ n = ap length (sym e) ∙ length-block_rows w n b in
    let wide : to - at ≡ w = omega arith in
    ap (λ (k : ℕ). take k (drop at b)) wide ∙ ap (λ (k : ℕ). take w (drop k b)) f ∙ sym (block_row w n t b (omega arith)) ∙ ap (λ (y : List (List X)). get_or y t []) e

-- what is written in the place of row t changes no other row
pub row_lent : (w n t at to len : ℕ) (b : List Pot) (rows : List (List Pot)) (ws : List Pot) → block_rows w n b ≡ rows → length b ≡ n * w → len ≡ length b → t < length rows → at ≡ t * w → to ≡ at + w
    → block_rows w n (refill len b (with_run b at to ws)) ≡ with_row rows t ws
row_lent w n t at to len b rows ws e l k lt f g =
    let old : List Pot = slice_range b at to in
    let r : List Pot = refill (to - at) old ws in
    let X : List Pot = with_run b at to ws in
    let is : old ≡ get_or rows t [] = row_part w n t at to b rows e lt f g in
    let ends : t * w + w ≤ length b = row_ends w n t b rows e l lt in
    let c : length rows ≡ n = ap length (sym e) ∙ length-block_rows w n b in
    let wide : to - at ≡ w = omega arith in
    let there = length-drop at b in
    let lo : length old ≡ to - at = length-take-le (to - at) (drop at b) (omega arith) in
    let lr : length r ≡ w = sym (length_refill (to - at) old ws (sym lo)) ∙ wide in
    let one = length-take-le at b (omega arith) in let two = length-drop to b in
    let three = length-append r (drop to b) in let four = length-append (take at b) (r ++ drop to b) in
    let long : length X ≡ len = omega arith in
    let new : r ≡ refill (length (get_or rows t [])) (get_or rows t []) ws = ap (λ (j : ℕ). refill j old ws) (sym lo) ∙ ap (λ (y : List Pot). refill (length y) y ws) is in
    ap (block_rows w n) (all_new len b X long) ∙ ap (λ (j : ℕ). block_rows w n (take at b ++ (r ++ drop j b))) g
    ∙ block_written w n t at b r f (omega arith) (omega arith) lr ∙ ap (λ (y : List (List Pot)). set y t r) e ∙ ap (set rows t) new

-- two rows that are not one row are apart
apart_by : (w s t : ℕ) → s ≢ t → (s < t) ⊎ (t ≤ s) → (s * w + w ≤ t * w) ⊎ (t * w + w ≤ s * w)
apart_by w s t ne (inl lt) = let m : suc s * w ≤ t * w = mul-le-mul_right w (omega arith) in inl (omega (arith, suc-mul s w))
apart_by w s t ne (inr le) = let m : suc t * w ≤ s * w = mul-le-mul_right w (omega arith) in inr (omega (arith, suc-mul t w))

pub rows_apart : (w s t : ℕ) → s ≢ t → (s * w + w ≤ t * w) ⊎ (t * w + w ≤ s * w)
rows_apart w s t ne = apart_by w s t ne (cases_lt s t)

-- Texts put one behind the other into a room.
use Rattle.std.proofs.Common.{◌≡◌, ℕ, ◌+◌, ◌-◌, ◌≤◌, List, [], ◌∷◌, ◌++◌, length, take, drop, replicate, arith, sym, ap, ap₂, ◌∙◌, append_assoc, length-append}
use Rattle.std.proofs.lemmas.List.{take_at, drop_at, drop-drop, take-replicate, length-replicate, length-take-le}

-- the room after a part is put at a place
abbrev pub with_part : ℕ → List ℕ → List ℕ → List ℕ
with_part from part room = take from room ++ (part ++ drop (from + length part) room)

-- what stands up to the end of the part, and what stands behind it
front_of : (from : ℕ) (a r : List ℕ) → from ≤ length r → take (from + length a) (with_part from a r) ≡ take from r ++ a
front_of from a r some =
    let size : length (take from r ++ a) ≡ from + length a = omega (arith, length-append (take from r) a, length-take-le from r some) in
    ap (take (from + length a)) (sym (append_assoc (take from r) a (drop (from + length a) r))) ∙ take_at (take from r ++ a) (drop (from + length a) r) (from + length a) size

back_of : (from : ℕ) (a r : List ℕ) → from ≤ length r → drop (from + length a) (with_part from a r) ≡ drop (from + length a) r
back_of from a r some =
    let size : length (take from r ++ a) ≡ from + length a = omega (arith, length-append (take from r) a, length-take-le from r some) in
    ap (drop (from + length a)) (sym (append_assoc (take from r) a (drop (from + length a) r))) ∙ drop_at (take from r ++ a) (drop (from + length a) r) (from + length a) size

-- two parts put one behind the other are their join put at once
pub part-part : (from : ℕ) (a b r : List ℕ) → from ≤ length r → with_part (from + length a) b (with_part from a r) ≡ with_part from (a ++ b) r
part-part from a b r some =
    let behind = sym (drop-drop (length b) (from + length a) (with_part from a r)) ∙ ap (drop (length b)) (back_of from a r some) ∙ drop-drop (length b) (from + length a) r in
    let place : from + length a + length b ≡ from + length (a ++ b) = omega (arith, length-append a b) in
    ap₂ (λ (x y : List ℕ). x ++ (b ++ y)) (front_of from a r some) (behind ∙ ap (λ (n : ℕ). drop n r) place)
    ∙ append_assoc (take from r) a (b ++ drop (from + length (a ++ b)) r) ∙ ap (λ (x : List ℕ). take from r ++ x) (sym (append_assoc a b (drop (from + length (a ++ b)) r)))

-- a text put behind zeros
pub zeros-part : (width : ℕ) (text : List ℕ) → width ≤ 64 → length text ≤ width
    → take width (with_part (width - length text) text (replicate 64 48)) ≡ replicate (width - length text) 48 ++ text
zeros-part width text room few =
    let place : width - length text + length text ≡ width = omega arith in
    let size : width - length text ≤ length {A = ℕ} (replicate 64 48) = omega (arith, length-replicate {A = ℕ} 64 48) in
    let front = front_of (width - length text) text (replicate 64 48) size in
    let same = ap (λ (n : ℕ). take n (with_part (width - length text) text (replicate 64 48))) place in
    let zeros = take-replicate (width - length text) 64 48 (omega arith) in
    sym same ∙ front ∙ ap (λ (x : List ℕ). x ++ text) zeros

-- three parts
pub three-parts : (from p q : ℕ) (a b c r0 r1 r2 r3 : List ℕ) → from ≤ length r0 → p ≡ from + length a → q ≡ p + length b → r1 ≡ with_part from a r0 → r2 ≡ with_part p b r1
    → r3 ≡ with_part q c r2 → r3 ≡ with_part from (a ++ (b ++ c)) r0
three-parts from p q a b c r0 r1 r2 r3 some ep eq e1 e2 e3 =
    let two = e2 ∙ ap₂ (λ (n : ℕ) (r : List ℕ). with_part n b r) ep e1 ∙ part-part from a b r0 some in
    let place : q ≡ from + length (a ++ b) = omega (arith, length-append a b) in
    e3 ∙ ap₂ (λ (n : ℕ) (r : List ℕ). with_part n c r) place two ∙ part-part from (a ++ b) c r0 some ∙ ap (λ (x : List ℕ). with_part from x r0) (append_assoc a b c)

-- a part behind a minus at the front
pub minus-part : (from : ℕ) (s r0 r1 r2 : List ℕ) → from ≡ 1 → r1 ≡ 45 ∷ drop 1 r0 → r2 ≡ with_part from s r1 → r2 ≡ (45 ∷ s) ++ drop (length {A = ℕ} (45 ∷ s)) r0
minus-part from s r0 r1 r2 ef e1 e2 =
    let least : 0 ≤ length r0 = omega arith in
    let place : from ≡ 0 + length {A = ℕ} (45 ∷ []) = omega arith in
    let plain : 0 + length {A = ℕ} (45 ∷ s) ≡ length {A = ℕ} (45 ∷ s) = omega arith in
    e2 ∙ ap₂ (λ (n : ℕ) (r : List ℕ). with_part n s r) place e1 ∙ part-part 0 (45 ∷ []) s r0 least ∙ ap (λ (n : ℕ). (45 ∷ s) ++ drop n r0) plain

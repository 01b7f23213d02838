-- The parts of a line have one reading.
use Rattle.std.proofs.Common.{◌≡◌, ℕ, suc, ℤ, pos, negsuc, List, [], ◌∷◌, ◌++◌, map, arith, refl, sym, ap, ap₂}
use Rattle.std.specs.List.{flat_map}
use Rattle.std.proofs.lemmas.List.{append_cancel_left}
use Rattle.d_num.specs.declared.pot.Pot.{Pot}
use Rattle.d_num.specs.declared.pot.Pot.TheVariants.{To, NoWay}
use Rattle.d_certline.specs.Lines.{spaced, pot_text}
use Rattle.d_certline.specs.Wholes.{whole, natural, decimal}
use Rattle.d_certline.proofs.DigitFacts.{AreClean, AreDigits, natural_digits, whole_one}
use Rattle.d_certline.proofs.ShortFacts.{pot_clean}

-- a part ends here
abbrev pub AtEnd : List ℕ → Type 0
AtEnd [] = Unit {0}
AtEnd (byte ∷ bytes) = byte ≡ 32

-- a part ends at the first space
pub split_one : (a b s t : List ℕ) → AreClean a → AreClean b → AtEnd s → AtEnd t → a ++ s ≡ b ++ t → (a ≡ b) × (s ≡ t)
split_one [] [] s t ca cb es et e = (refl, e)
split_one [] (y ∷ b) [] t ca cb es et e = absurd cc
split_one [] (y ∷ b) (x ∷ s) t ca cb es et e = let same : x ≡ y = cc in let least = cb.0 in absurd (omega arith)
split_one (x ∷ a) [] s [] ca cb es et e = absurd cc
split_one (x ∷ a) [] s (y ∷ t) ca cb es et e = let same : x ≡ y = cc in let least = ca.0 in absurd (omega arith)
split_one (x ∷ a) (y ∷ b) s t ca cb es et e =
    let head : x ≡ y = cc in
    let tail : a ++ s ≡ b ++ t = cc in
    let rest = split_one a b s t ca.1 cb.1 es et tail in
    (ap₂ (λ (h : ℕ) (l : List ℕ). h ∷ l) head rest.0, rest.1)

-- an x is no number
x_other : (z : ℤ) → 120 ∷ [] ≡ whole z → ⊥
unfolding whole
x_other (pos n) e = first (natural n) (natural_digits n) e
  where
    first : (bytes : List ℕ) → AreDigits bytes → 120 ∷ [] ≡ bytes → ⊥
    first [] all e = cc
    first (byte ∷ bytes) all e = let same : byte ≡ 120 = cc in let most = all.0.1 in omega arith
x_other (negsuc n) e = let bad : ◌≡◌ {A = ℕ} 120 45 = heads 120 45 [] (decimal (suc n)) e in omega arith
  where
    heads : (a b : ℕ) (s t : List ℕ) → a ∷ s ≡ b ∷ t → (a ≡ b)
    heads a b s t e = cc

-- a text is that of one part
pub pot_one : (p q : Pot) → pot_text p ≡ pot_text q → p ≡ q
unfolding pot_text
pot_one NoWay NoWay e = refl
pot_one NoWay (To z) e = absurd (x_other z e)
pot_one (To z) NoWay e = absurd (x_other z (sym e))
pot_one (To y) (To z) e = ap (λ n. To n) (whole_one y z e)

pub spaced_end : (ps : List Pot) → AtEnd (flat_map spaced ps)
spaced_end [] = tt
spaced_end (p ∷ ps) = refl

-- and of one list of parts
pub flat_one : (ps qs : List Pot) → flat_map spaced ps ≡ flat_map spaced qs → ps ≡ qs
flat_one [] [] e = refl
flat_one [] (q ∷ qs) e = absurd cc
flat_one (p ∷ ps) [] e = absurd cc
flat_one (p ∷ ps) (q ∷ qs) e =
    let tail : pot_text p ++ flat_map spaced ps ≡ pot_text q ++ flat_map spaced qs = tails 32 32 (pot_text p ++ flat_map spaced ps) (pot_text q ++ flat_map spaced qs) e in
    let both = split_one (pot_text p) (pot_text q) (flat_map spaced ps) (flat_map spaced qs) (pot_clean p) (pot_clean q) (spaced_end ps) (spaced_end qs) tail in
    ap₂ (λ (h : Pot) (l : List Pot). h ∷ l) (pot_one p q both.0) (flat_one ps qs both.1)
  where
    tails : (a b : ℕ) (s t : List ℕ) → a ∷ s ≡ b ∷ t → s ≡ t
    tails a b s t e = cc

-- behind one word
pub parts_one : (word : List ℕ) (ps qs : List Pot) → word ++ flat_map spaced ps ≡ word ++ flat_map spaced qs → ps ≡ qs
parts_one word ps qs e = flat_one ps qs (append_cancel_left word (flat_map spaced ps) (flat_map spaced qs) e)

-- numbers have one list
pub numbers_one : (ys zs : List ℤ) → map (λ z. To z) ys ≡ map (λ z. To z) zs → ys ≡ zs
numbers_one [] [] e = refl
numbers_one [] (z ∷ zs) e = absurd cc
numbers_one (y ∷ ys) [] e = absurd cc
numbers_one (y ∷ ys) (z ∷ zs) e =
    let tail : map (λ z. To z) ys ≡ map (λ z. To z) zs = tails (To y) (To z) (map (λ z. To z) ys) (map (λ z. To z) zs) e in
    let head : y ≡ z = heads y z (map (λ z. To z) ys) (map (λ z. To z) zs) e in
    ap₂ (λ (h : ℤ) (l : List ℤ). h ∷ l) head (numbers_one ys zs tail)
  where
    tails : (a b : Pot) (s t : List Pot) → a ∷ s ≡ b ∷ t → s ≡ t
    tails a b s t e = cc

    heads : (a b : ℤ) (s t : List Pot) → To a ∷ s ≡ To b ∷ t → a ≡ b
    heads a b s t e = cc

-- digits end at a byte that is none
pub digits_one : (a b s t : List ℕ) → AreDigits a → AreDigits b → a ++ 45 ∷ s ≡ b ++ 45 ∷ t → (a ≡ b) × (s ≡ t)
digits_one [] [] s t da db e = (refl, cc)
digits_one [] (y ∷ b) s t da db e = let same : y ≡ 45 = cc in let least = db.0.0 in absurd (omega arith)
digits_one (x ∷ a) [] s t da db e = let same : x ≡ 45 = cc in let least = da.0.0 in absurd (omega arith)
digits_one (x ∷ a) (y ∷ b) s t da db e =
    let head : x ≡ y = cc in
    let tail : a ++ 45 ∷ s ≡ b ++ 45 ∷ t = cc in
    let rest = digits_one a b s t da.1 db.1 tail in
    (ap₂ (λ (h : ℕ) (l : List ℕ). h ∷ l) head rest.0, rest.1)

-- Taking the zeros off at the end of decimals.
use Rattle.std.proofs.Common.{◌≡◌, ℕ, zero, suc, ◌+◌, ◌-◌, ◌≤◌, ◌<◌, min, Bool, true, false, ◌==◌, List, [], ◌∷◌, ◌++◌, length, take, drop, slice_range, get_or, arith, refl, ap, sym, ◌∙◌, length-drop, ℤ, pos, negsuc, unsigned_abs}
use Rattle.std.proofs.lemmas.Bool.Decides.{nat_tests}
use Rattle.std.proofs.lemmas.Int.{ints}
use Rattle.std.proofs.lemmas.List.{take_all, get_or-drop}
use lib.Signed.{lt_z}
use Rattle.d_text.specs.Text.{without_back, shortened, size_text, amount_text}
use Rattle.d_text.proofs.Blanks.{without_back-more, without_back-stop, without_back-none}

-- the digit 0
abbrev pub is_zero : ℕ → Bool
is_zero digit = digit == 48

-- another digit
not_zero : (digit : ℕ) → (digit ≡ 48 → ⊥) → is_zero digit ≡ false
not_zero digit other = grind (arith, nat_tests)

-- nothing is taken off yet
pub zeros-all : (decimals : List ℕ) → without_back is_zero (take (length decimals - 2) (drop 2 decimals)) ≡ without_back is_zero (drop 2 decimals)
zeros-all decimals = ap (without_back is_zero) (take_all (length decimals - 2) (drop 2 decimals) (omega (arith, length-drop 2 decimals)))

-- one zero more
pub zeros-more : (decimals : List ℕ) (end : ℕ) → 2 < end → end ≤ length decimals → get_or decimals (end - 1) 0 ≡ 48
    → without_back is_zero (take (end - 1 - 2) (drop 2 decimals)) ≡ without_back is_zero (take (end - 2) (drop 2 decimals))
zeros-more decimals end some within hit =
    let at : 2 + (end - 2 - 1) ≡ end - 1 = omega arith in
    let same : end - 1 - 2 ≡ end - 2 - 1 = omega arith in
    rw same (without_back-more is_zero (drop 2 decimals) (end - 2) (omega arith) (omega (arith, length-drop 2 decimals)) (rw (get_or-drop, at, hit) refl))

-- a digit that stays
pub zeros-stop : (decimals : List ℕ) (end : ℕ) → 2 < end → end ≤ length decimals → (get_or decimals (end - 1) 0 ≡ 48 → ⊥)
    → take (end - 2) (drop 2 decimals) ≡ without_back is_zero (take (end - 2) (drop 2 decimals))
zeros-stop decimals end some within other =
    let at : 2 + (end - 2 - 1) ≡ end - 1 = omega arith in
    without_back-stop is_zero (drop 2 decimals) (end - 2) (omega arith) (omega (arith, length-drop 2 decimals)) (rw (get_or-drop, at) (not_zero (get_or decimals (end - 1) 0) other))

-- or two digits
pub zeros-two : (decimals : List ℕ) (end : ℕ) → end ≤ 2 → take (end - 2) (drop 2 decimals) ≡ without_back is_zero (take (end - 2) (drop 2 decimals))
zeros-two decimals end few = without_back-none is_zero (drop 2 decimals) (end - 2) (omega arith)

-- a front of nothing is nothing
nothing : (n : ℕ) → ◌≡◌ {A = List ℕ} (take n []) []
nothing zero = refl
nothing (suc n) = refl

-- a front of decimals is its first two and those behind them
front : (decimals : List ℕ) (end : ℕ) → min 2 (length decimals) ≤ end → take end decimals ≡ take 2 decimals ++ take (end - 2) (drop 2 decimals)
front [] end most = nothing end ∙ sym (nothing (end - 2))
front (a ∷ []) zero most = absurd (omega arith)
front (a ∷ []) (suc end) most = ap (λ (d : List ℕ). a ∷ d) (nothing end ∙ sym (nothing (suc end - 2)))
front (a ∷ b ∷ rest) zero most = absurd (omega arith)
front (a ∷ b ∷ rest) (suc zero) most = absurd (omega arith)
front (a ∷ b ∷ rest) (suc (suc end)) most = let e : suc (suc end) - 2 ≡ end = omega arith in rw e refl

-- what is left
pub zeros-end : (decimals : List ℕ) (end : ℕ) → min 2 (length decimals) ≤ end → take (end - 2) (drop 2 decimals) ≡ without_back is_zero (drop 2 decimals)
    → slice_range decimals 0 end ≡ shortened decimals
zeros-end decimals end most rest = let whole : end - 0 ≡ end = omega arith in rw whole (front decimals end most ∙ ap (λ (d : List ℕ). take 2 decimals ++ d) rest)

-- the text of an amount with its sign
pub amount-positive : (places : ℕ) (units : ℤ) → lt_z units (pos 0) ≡ false → amount_text places units ≡ size_text places (unsigned_abs units)
amount-positive places (pos units) sign = refl
amount-positive places (negsuc units) sign = absurd (grind (arith, ints))

pub amount-negative : (places : ℕ) (units : ℤ) → lt_z units (pos 0) ≡ true → amount_text places units ≡ 45 ∷ size_text places (unsigned_abs units)
amount-negative places (pos units) sign = absurd (grind (arith, ints))
amount-negative places (negsuc units) sign = refl

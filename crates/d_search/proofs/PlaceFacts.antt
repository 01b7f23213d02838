-- Elements of lists by their places, after a write and after more elements were put behind.
use Rattle.std.proofs.Common.{◌≡◌, ◌≢◌, inl, inr, ℕ, zero, suc, ◌+◌, ◌<◌, ◌≤◌, List, [], ◌∷◌, ◌++◌, Option, Some, None, length, slice_get, slice_set, length-append, length-set, arith, sym, refl, ap, subst, ◌∙◌}
use Rattle.std.proofs.lemmas.Bool.{cases_lt, cases_eq}
use Rattle.std.proofs.lemmas.Option.{slice_get_within, same_Some, none-some}

pub none_is_some : {X : Type 0} (x : X) (o : Option X) → o ≡ None → o ≡ Some x → ⊥
none_is_some x o none some = none-some x (sym none ∙ some)

-- what was written
pub get_set_same : {X : Type 0} (xs : List X) (i : ℕ) (y : X) → i < length xs → slice_get (slice_set xs i y) i ≡ Some y
get_set_same [] i y inside = absurd (omega arith)
get_set_same (x ∷ xs) zero y inside = refl
get_set_same (x ∷ xs) (suc i) y inside = get_set_same xs i y (omega arith)

-- elsewhere nothing changes
pub get_set_other : {X : Type 0} (xs : List X) (i j : ℕ) (y : X) → j ≢ i → slice_get (slice_set xs i y) j ≡ slice_get xs j
get_set_other [] i j y other = refl
get_set_other (x ∷ xs) zero zero y other = absurd (other refl)
get_set_other (x ∷ xs) zero (suc j) y other = refl
get_set_other (x ∷ xs) (suc i) zero y other = refl
get_set_other (x ∷ xs) (suc i) (suc j) y other = get_set_other xs i j y (λ e. other (ap suc e))

-- the elements in front stay
pub get_front : {X : Type 0} (xs ys : List X) (i : ℕ) → i < length xs → slice_get (xs ++ ys) i ≡ slice_get xs i
get_front [] ys i inside = absurd (omega arith)
get_front (x ∷ xs) ys zero inside = refl
get_front (x ∷ xs) ys (suc i) inside = get_front xs ys i (omega arith)

-- those put behind follow
pub get_behind : {X : Type 0} (xs ys : List X) (i j : ℕ) → i ≡ length xs + j → slice_get (xs ++ ys) i ≡ slice_get ys j
get_behind [] ys i j is_at = ap (slice_get ys) (omega arith)
get_behind (x ∷ xs) ys zero j is_at = absurd (omega arith)
get_behind (x ∷ xs) ys (suc i) j is_at = get_behind xs ys i j (omega arith)

-- what is true of each element after one was written and two were put behind
pub after_cases : {X : Type 0} (P : ℕ → X → Type 0) (xs : List X) (i : ℕ) (y a b : X) → i < length xs
    → ((j : ℕ) (x : X) → j ≢ i → slice_get xs j ≡ Some x → P j x) → P i y → P (length xs) a → P (length xs + 1) b
    → (j : ℕ) (x : X) → slice_get (slice_set xs i y ++ a ∷ b ∷ []) j ≡ Some x → P j x
after_cases {X} P xs i y a b inside others written first second j x h = elim (cases_lt j (length xs)) [
  | inl front ↦ let old = sym (get_front (slice_set xs i y) (a ∷ b ∷ []) j (omega (arith, length-set xs i y))) ∙ h in elim (cases_eq j i) [
    | inl same ↦ at_written same old
    | inr other ↦ others j x other (sym (get_set_other xs i j y other) ∙ old)
  ]
  | inr behind ↦ elim (cases_eq j (length xs)) [
    | inl same ↦ at_first same (sym (put 0 (omega arith)) ∙ h)
    | inr other ↦ elim (cases_eq j (length xs + 1)) [
      | inl same ↦ at_second same (sym (put 1 (omega arith)) ∙ h)
      | inr past ↦ absurd (out behind other past (slice_get_within _ j x h))
    ]
  ]
]
  where
    long : length (slice_set xs i y ++ a ∷ b ∷ []) ≡ length xs + 2
    long = omega (arith, length-append (slice_set xs i y) (a ∷ b ∷ []), length-set xs i y)

    at_written : j ≡ i → slice_get (slice_set xs i y) j ≡ Some x → P j x
    at_written same old = subst (λ (k : ℕ). P k x) (sym same) (subst (λ (z : X). P i z) (same_Some y x (sym (get_set_same xs i y inside) ∙ (ap (slice_get (slice_set xs i y)) (sym same) ∙ old))) written)

    put : (k : ℕ) → j ≡ length xs + k → slice_get (slice_set xs i y ++ a ∷ b ∷ []) j ≡ slice_get (a ∷ b ∷ []) k
    put k is_at = get_behind (slice_set xs i y) (a ∷ b ∷ []) j k (omega (arith, length-set xs i y))

    at_first : j ≡ length xs → Some a ≡ Some x → P j x
    at_first same e = subst (λ (k : ℕ). P k x) (sym same) (subst (λ (z : X). P (length xs) z) (same_Some a x e) first)

    at_second : j ≡ length xs + 1 → Some b ≡ Some x → P j x
    at_second same e = subst (λ (k : ℕ). P k x) (sym same) (subst (λ (z : X). P (length xs + 1) z) (same_Some b x e) second)

    out : length xs ≤ j → (j ≡ length xs → ⊥) → (j ≡ length xs + 1 → ⊥) → j < length (slice_set xs i y ++ a ∷ b ∷ []) → ⊥
    out behind first second within = omega (arith, long)

-- Numbers of the months as 128 bits keep them.
use Rattle.std.proofs.Common.{◌≡◌, ◌∙◌, ◌<◌, ◌≤◌, ◌^◌, ℕ, ℤ, pos, inl, inr, Bool, true, false, not, List, length, get_or, All, sym, ap, arith, to_z, of_z}
use Rattle.std.specs.Ordering.{int_eq}
use Rattle.std.proofs.lemmas.Bool.{cases_Bool}
use Rattle.std.proofs.lemmas.Bool.Decides.{Decides-int_eq}
use Rattle.std.specs.Int.{w128}
use Rattle.std.proofs.lemmas.Int.{ints}
use Rattle.d_num.specs.Amount.{IsWithin}

-- a number within its range is kept
kept : (most : ℕ) (units : ℤ) → most ≤ 10 ^ 28 → IsWithin most units → to_z w128 (of_z w128 units) ≡ units
kept most units small within = omega (arith, ints)

-- so is one of several
pub kept_at : (most : ℕ) (numbers : List ℤ) (month place : ℕ) → most ≤ 10 ^ 28 → All (IsWithin most) numbers → month < length numbers → place ≡ month
    → to_z w128 (of_z w128 (get_or numbers place (pos 0))) ≡ get_or numbers month (pos 0)
kept_at most numbers month place small all within same =
    ap (λ (p : ℕ). to_z w128 (of_z w128 (get_or numbers p (pos 0)))) same ∙ kept most (get_or numbers month (pos 0)) small (all month (pos 0) within)

-- and a test of it says the same
pub kept_test : (test : ℤ → Bool) (answer : Bool) (most : ℕ) (numbers : List ℤ) (month place : ℕ) → most ≤ 10 ^ 28 → All (IsWithin most) numbers
    → month < length numbers → place ≡ month → test (to_z w128 (of_z w128 (get_or numbers place (pos 0)))) ≡ answer
    → test (get_or numbers month (pos 0)) ≡ answer
kept_test test answer most numbers month place small all within same is = sym (ap test (kept_at most numbers month place small all within same)) ∙ is

-- whether a number within its range is 0, its bits tell
zero : (most : ℕ) (units : ℤ) → most ≤ 10 ^ 28 → IsWithin most units → of_z w128 units ≡ 0 → units ≡ pos 0
zero most units small within none = omega (arith, ints)

pub zero_at : (most : ℕ) (numbers : List ℤ) (month place : ℕ) → most ≤ 10 ^ 28 → All (IsWithin most) numbers → month < length numbers → place ≡ month
    → of_z w128 (get_or numbers place (pos 0)) ≡ 0 → not (int_eq (get_or numbers month (pos 0)) (pos 0)) ≡ false
zero_at most numbers month place small all within same none =
    let n = get_or numbers month (pos 0) in
    ap not ((Decides-int_eq n (pos 0)).1 (zero most n small (all month (pos 0) within) (ap (λ p. of_z w128 (get_or numbers p (pos 0))) (sym same) ∙ none)))

pub other_at : (most : ℕ) (numbers : List ℤ) (month place : ℕ) → most ≤ 10 ^ 28 → All (IsWithin most) numbers → month < length numbers → place ≡ month
    → (of_z w128 (get_or numbers place (pos 0)) ≡ 0 → ⊥) → not (int_eq (get_or numbers month (pos 0)) (pos 0)) ≡ true
other_at most numbers month place small all within same some =
    let n = get_or numbers month (pos 0) in
    let here : of_z w128 n ≡ 0 → ⊥ = λ none. some (ap (λ p. of_z w128 (get_or numbers p (pos 0))) same ∙ none) in
    elim (cases_Bool (int_eq n (pos 0))) [
      | inl none ↦ absurd (here (ap (of_z w128) ((Decides-int_eq n (pos 0)).0 none)))
      | inr differs ↦ ap not differs
    ]

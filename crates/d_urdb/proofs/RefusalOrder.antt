-- The first of several refusals.
use Rattle.std.proofs.Common.{◌≡◌, ℕ, zero, suc, ◌<◌, ◌≤◌, List, [], ◌∷◌, ◌++◌, Option, None, Some, refl, ◌∙◌, arith, inl, inr, Result, Ok, Err, ◌+◌, subst}
use Rattle.std.proofs.lemmas.Bool.{cases_eq}
use Rattle.d_urdb.specs.declared.fault.Refused.{Refused}
use Rattle.d_urdb.specs.Numbers.{CellReader}
use Rattle.d_urdb.specs.Refusals.{first_of, each}
use Rattle.d_urdb.specs.Checks.{Passes, Refuses, Checks}

-- where none of the first ones comes the others decide
pub none_before : (xs ys : List (Option Refused)) → first_of xs ≡ None → first_of (xs ++ ys) ≡ first_of ys
unfolding first_of
none_before [] ys none = refl
none_before (None ∷ xs) ys none = none_before xs ys none
none_before (Some refused ∷ xs) ys none = absurd (let e : Some refused ≡ None = none in cc)

-- where one of the first ones comes it decides
pub some_before : (xs ys : List (Option Refused)) (refused : Refused) → first_of xs ≡ Some refused → first_of (xs ++ ys) ≡ Some refused
unfolding first_of
some_before [] ys refused some = absurd (let e : None ≡ Some refused = some in cc)
some_before (None ∷ xs) ys refused some = some_before xs ys refused some
some_before (Some first ∷ xs) ys refused some = some

-- a refusal of the first lists is that of all
pub each_more : (n k : ℕ) (list : ℕ → List (Option Refused)) (refused : Refused) → k ≤ n → first_of (each k list) ≡ Some refused
    → first_of (each n list) ≡ Some refused
unfolding each
each_more zero k list refused within some = let none : k ≡ 0 = omega (arith, within) in subst (λ m. first_of (each m list) ≡ Some refused) none some
each_more (suc n) k list refused within some = elim (cases_eq k (suc n)) [
  | inl is ↦ subst (λ m. first_of (each m list) ≡ Some refused) is some
  | inr other ↦ some_before (each n list) (list n) refused (each_more n k list refused (omega (arith, within, other)) some)
]

-- a refusal in one of the lists, where those before have none
pub each_here : (n k : ℕ) (list : ℕ → List (Option Refused)) (refused : Refused) → k < n → first_of (each k list) ≡ None → first_of (list k) ≡ Some refused
    → first_of (each n list) ≡ Some refused
unfolding each
each_here n k list refused below before here =
    each_more n (suc k) list refused (omega (arith, below)) (none_before (each k list) (list k) before ∙ here)

-- no list has a refusal where all together have none
pub front_none : (xs ys : List (Option Refused)) → first_of (xs ++ ys) ≡ None → (first_of xs ≡ None) × (first_of ys ≡ None)
unfolding first_of
front_none [] ys none = (refl, none)
front_none (None ∷ xs) ys none = front_none xs ys none
front_none (Some refused ∷ xs) ys none = absurd (let e : Some refused ≡ None = none in cc)

pub each_none : (n k : ℕ) (list : ℕ → List (Option Refused)) → k < n → first_of (each n list) ≡ None → first_of (list k) ≡ None
unfolding each
each_none zero k list below none = absurd (omega (arith, below))
each_none (suc n) k list below none =
    let parts = front_none (each n list) (list n) none in
    elim (cases_eq k n) [
      | inl is ↦ rw is parts.1
      | inr other ↦ each_none n k list (omega (arith, below, other)) parts.0
    ]

-- checks one after the other
pub both_pass : (xs ys : CellReader → List (Option Refused)) → Passes xs → Passes ys → Passes (λ reader. xs reader ++ ys reader)
both_pass xs ys one other reader are = none_before (xs reader) (ys reader) (one reader are) ∙ other reader are

pub first_refuses : (xs ys : CellReader → List (Option Refused)) (refused : Refused) → Refuses xs refused → Refuses (λ reader. xs reader ++ ys reader) refused
first_refuses xs ys refused one reader are = some_before (xs reader) (ys reader) refused (one reader are)

pub then_refuses : (xs ys : CellReader → List (Option Refused)) (refused : Refused) → Passes xs → Refuses ys refused → Refuses (λ reader. xs reader ++ ys reader) refused
then_refuses xs ys refused one other reader are = none_before (xs reader) (ys reader) (one reader are) ∙ other reader are

-- a check for each of several numbers
pub none_yet : (list : CellReader → ℕ → List (Option Refused)) → Passes (λ reader. each 0 (list reader))
unfolding each first_of
none_yet list reader are = refl

pub one_more : (k : ℕ) (list : CellReader → ℕ → List (Option Refused)) → Passes (λ reader. each k (list reader)) → Passes (λ reader. list reader k)
    → Passes (λ reader. each (k + 1) (list reader))
unfolding each
one_more k list before here reader are =
    let next : suc k ≡ k + 1 = omega arith in
    subst (λ m. first_of (each m (list reader)) ≡ None) next (none_before (each k (list reader)) (list reader k) (before reader are) ∙ here reader are)

pub refused_here : (n k : ℕ) (list : CellReader → ℕ → List (Option Refused)) (refused : Refused) → k < n → Passes (λ reader. each k (list reader))
    → Refuses (λ reader. list reader k) refused → Refuses (λ reader. each n (list reader)) refused
refused_here n k list refused below before here reader are = each_here n k (list reader) refused below (before reader are) (here reader are)

-- a check after others that pass
pub then_checks : {A : Type 0} (xs ys : CellReader → List (Option Refused)) (result : Result A Refused) → Passes xs → Checks ys result
    → Checks (λ reader. xs reader ++ ys reader) result
then_checks xs ys (Ok value) one other = both_pass xs ys one other
then_checks xs ys (Err refused) one other = then_refuses xs ys refused one other

-- The first of several refusals.
use Rattle.std.proofs.Common.{◌≡◌, ℕ, zero, suc, ◌+◌, ◌<◌, ◌≤◌, Bool, true, false, List, [], ◌∷◌, ◌++◌, Option, None, Some, refl, ◌∙◌, arith, inl, inr, subst}
use Rattle.std.proofs.lemmas.Bool.{cases_eq}
use Rattle.d_list.specs.Firsts.{first_of, each, when}

-- where none of the first ones comes the others decide
pub none_before : {R : Type 0} (xs ys : List (Option R)) → first_of xs ≡ None → first_of (xs ++ ys) ≡ first_of ys
unfolding first_of
none_before [] ys none = refl
none_before (None ∷ xs) ys none = none_before xs ys none
none_before (Some refused ∷ xs) ys none = absurd (let e : Some refused ≡ None = none in cc)

-- where one of the first ones comes it decides
pub some_before : {R : Type 0} (xs ys : List (Option R)) (refused : R) → first_of xs ≡ Some refused → first_of (xs ++ ys) ≡ Some refused
unfolding first_of
some_before [] ys refused some = absurd (let e : None ≡ Some refused = some in cc)
some_before (None ∷ xs) ys refused some = some_before xs ys refused some
some_before (Some first ∷ xs) ys refused some = some

-- none comes of either part where none comes of both
pub front_none : {R : Type 0} (xs ys : List (Option R)) → first_of (xs ++ ys) ≡ None → (first_of xs ≡ None) × (first_of ys ≡ None)
unfolding first_of
front_none [] ys none = (refl, none)
front_none (None ∷ xs) ys none = front_none xs ys none
front_none (Some refused ∷ xs) ys none = absurd (let e : Some refused ≡ None = none in cc)

-- a refusal of the first lists is that of all
pub each_more : {R : Type 0} (n k : ℕ) (list : ℕ → List (Option R)) (refused : R) → k ≤ n → first_of (each k list) ≡ Some refused
    → first_of (each n list) ≡ Some refused
unfolding each
each_more zero k list refused within some = let none : k ≡ 0 = omega (arith, within) in subst (λ m. first_of (each m list) ≡ Some refused) none some
each_more (suc n) k list refused within some = elim (cases_eq k (suc n)) [
  | inl is ↦ subst (λ m. first_of (each m list) ≡ Some refused) is some
  | inr other ↦ some_before (each n list) (list n) refused (each_more n k list refused (omega (arith, within, other)) some)
]

-- a refusal in one of the lists, where those before have none
pub each_here : {R : Type 0} (n k : ℕ) (list : ℕ → List (Option R)) (refused : R) → k < n → first_of (each k list) ≡ None → first_of (list k) ≡ Some refused
    → first_of (each n list) ≡ Some refused
unfolding each
each_here n k list refused below before here =
    each_more n (suc k) list refused (omega (arith, below)) (none_before (each k list) (list k) before ∙ here)

-- no list has a refusal where all together have none
pub each_none : {R : Type 0} (n k : ℕ) (list : ℕ → List (Option R)) → k < n → first_of (each n list) ≡ None → first_of (list k) ≡ None
unfolding each
each_none zero k list below none = absurd (omega (arith, below))
each_none (suc n) k list below none =
    let parts = front_none (each n list) (list n) none in
    elim (cases_eq k n) [
      | inl is ↦ rw is parts.1
      | inr other ↦ each_none n k list (omega (arith, below, other)) parts.0
    ]

-- one list more
pub one_more : {R : Type 0} (k : ℕ) (list : ℕ → List (Option R)) → first_of (each k list) ≡ None → first_of (list k) ≡ None → first_of (each (k + 1) list) ≡ None
unfolding each
one_more k list before here =
    let next : suc k ≡ k + 1 = omega arith in
    subst (λ m. first_of (each m list) ≡ None) next (none_before (each k list) (list k) before ∙ here)

-- a test that holds or not
pub when_passes : {R : Type 0} (test : Bool) (refused : R) → test ≡ false → when test refused ≡ None
when_passes test refused fails = rw fails refl

pub when_refuses : {R : Type 0} (test : Bool) (refused : R) → test ≡ true → when test refused ≡ Some refused
when_refuses test refused passes = rw passes refl

pub when_none : {R : Type 0} (test : Bool) (refused : R) → when test refused ≡ None → test ≡ false
when_none true refused none = absurd (let e : Some refused ≡ None = none in cc)
when_none false refused none = refl

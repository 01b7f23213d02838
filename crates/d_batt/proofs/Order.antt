-- The order of refusals.
use Rattle.std.proofs.Common.{◌≡◌, inl, inr, ℕ, suc, ◌+◌, ◌<◌, Bool, true, false, List, ◌∷◌, ◌++◌, Option, None, Some, Err, refl, ◌∙◌, arith, subst}
use Rattle.d_list.specs.Firsts.{first_of, each, when}
use Rattle.d_list.proofs.Firsts.{none_before, some_before, each_here}
use Rattle.d_batt.specs.declared.fault.BatteryFault.{BatteryFault}
use Rattle.d_batt.specs.Checks.{Passes, Checks}
use Rattle.d_batt.specs.Numbers.{Reader}

-- a test that holds decides
pub test_first : {R : Type 0} (test : Bool) (refused : R) (rest : List (Option R)) → test ≡ true → first_of (when test refused ∷ rest) ≡ Some refused
unfolding first_of
test_first test refused rest holds = rw holds refl

-- behind one that doesn't the others decide
pub test_next : {R : Type 0} (test : Bool) (refused : R) (rest : List (Option R)) (first : Option R) → test ≡ false → first_of rest ≡ first
    → first_of (when test refused ∷ rest) ≡ first
unfolding first_of
test_next test refused rest first fails others = rw fails others

-- checks one after the other
pub both_pass : (xs ys : Reader → List (Option BatteryFault)) → Passes xs → Passes ys → Passes (λ reader. xs reader ++ ys reader)
both_pass xs ys one other reader are = none_before (xs reader) (ys reader) (one reader are) ∙ other reader are

pub first_fails : (A B : Type 0) (xs ys : Reader → List (Option BatteryFault)) (fault : BatteryFault) → Checks {A = A} xs (Err fault)
    → Checks {A = B} (λ reader. xs reader ++ ys reader) (Err fault)
first_fails A B xs ys fault (inl memory) = inl memory
first_fails A B xs ys fault (inr refuses) = inr (λ reader are. some_before (xs reader) (ys reader) fault (refuses reader are))

pub then_fails : (A B : Type 0) (xs ys : Reader → List (Option BatteryFault)) (fault : BatteryFault) → Passes xs → Checks {A = A} ys (Err fault)
    → Checks {A = B} (λ reader. xs reader ++ ys reader) (Err fault)
then_fails A B xs ys fault passes (inl memory) = inl memory
then_fails A B xs ys fault passes (inr refuses) =
    inr (λ reader are. none_before (xs reader) (ys reader) (passes reader are) ∙ refuses reader are)

-- a check for each of several rows
pub none_yet : (list : Reader → ℕ → List (Option BatteryFault)) → Passes (λ reader. each 0 (list reader))
unfolding each first_of
none_yet list reader are = refl

pub one_more : (k : ℕ) (list : Reader → ℕ → List (Option BatteryFault)) → Passes (λ reader. each k (list reader)) → Passes (λ reader. list reader k)
    → Passes (λ reader. each (k + 1) (list reader))
unfolding each
one_more k list before here reader are =
    let next : suc k ≡ k + 1 = omega arith in
    subst (λ m. first_of (each m (list reader)) ≡ None) next (none_before (each k (list reader)) (list reader k) (before reader are) ∙ here reader are)

pub refused_here : (A B : Type 0) (n k : ℕ) (list : Reader → ℕ → List (Option BatteryFault)) (fault : BatteryFault) → k < n
    → Passes (λ reader. each k (list reader)) → Checks {A = A} (λ reader. list reader k) (Err fault)
    → Checks {A = B} (λ reader. each n (list reader)) (Err fault)
refused_here A B n k list fault below before (inl memory) = inl memory
refused_here A B n k list fault below before (inr here) =
    inr (λ reader are. each_here n k (list reader) fault below (before reader are) (here reader are))

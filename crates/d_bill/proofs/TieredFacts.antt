-- When no number passes a test.
use Rattle.std.proofs.Common.{◌≡◌, ◌⊎◌, inl, inr, ℕ, zero, suc, ◌<◌, List, [], ◌∷◌, ◌++◌, Bool, true, false, refl, arith, ◌+◌, below_more}
use Rattle.d_bill.specs.Slopes.{numbers_where}

-- there is none where none passes
pub numbers_none : (n : ℕ) (test : ℕ → Bool) → ((k : ℕ) → k < n → test k ≡ false) → numbers_where test n ≡ []
unfolding numbers_where
numbers_none zero test none = refl
numbers_none (suc n) test none = rw (none n (omega arith)) (numbers_none n test (λ k below. none k (omega arith)))

-- and one is there where one passes
pub numbers_some : (n k : ℕ) (test : ℕ → Bool) → k < n → test k ≡ true → numbers_where test n ≡ [] → ⊥
unfolding numbers_where
numbers_some zero k test below passes e = absurd (omega arith)
numbers_some (suc n) k test below passes e = by_place (λ less none. numbers_some n k test less passes none) (last k n below) (test n) refl
  where
    last : (k n : ℕ) → k < suc n → (k ≡ n) ⊎ (k < n)
    last k n below = grind arith

    longer : (xs : List ℕ) → xs ++ n ∷ [] ≡ [] → ⊥
    longer [] e = absurd (cc)
    longer (x ∷ xs) e = absurd (cc)

    by_place : (k < n → numbers_where test n ≡ [] → ⊥) → (k ≡ n) ⊎ (k < n) → (t : Bool) → test n ≡ t → ⊥
    by_place earlier place true here = longer (numbers_where test n) (rw here at e)
    by_place earlier (inl same) false here = absurd (let there : test n ≡ true = rw same at passes in cc)
    by_place earlier (inr less) false here = earlier less (rw here at e)

-- one more number that doesn't pass
pub one_more : (n : ℕ) (test : ℕ → Bool) → ((k : ℕ) → k < n → test k ≡ false) → test n ≡ false → (k : ℕ) → k < n + 1 → test k ≡ false
one_more n test before here k below = below_more _ _ before here k below

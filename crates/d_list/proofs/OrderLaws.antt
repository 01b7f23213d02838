-- Laws of the order of lists of numbers.
use Rattle.std.proofs.Common.{◌≡◌, inl, inr, ℕ, List, [], ◌∷◌, refl, ap₂, arith}
use Rattle.d_list.specs.Order.{IsNotAfter}

-- two lists neither of which comes after the other are one
pub IsNotAfter-antisym : (xs ys : List ℕ) → IsNotAfter xs ys → IsNotAfter ys xs → xs ≡ ys
IsNotAfter-antisym [] [] low high = refl
IsNotAfter-antisym [] (y ∷ ys) low high = absurd high
IsNotAfter-antisym (x ∷ xs) [] low high = absurd low
IsNotAfter-antisym (x ∷ xs) (y ∷ ys) (inl below) (inl above) = absurd (omega arith)
IsNotAfter-antisym (x ∷ xs) (y ∷ ys) (inl below) (inr above) = let e = above.0 in absurd (omega arith)
IsNotAfter-antisym (x ∷ xs) (y ∷ ys) (inr below) (inl above) = let e = below.0 in absurd (omega arith)
IsNotAfter-antisym (x ∷ xs) (y ∷ ys) (inr below) (inr above) = ap₂ ◌∷◌ below.0 (IsNotAfter-antisym xs ys below.1 above.1)

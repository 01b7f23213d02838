-- Lists of the values of a function.
use Rattle.std.proofs.Common.{◌≡◌, ◌⊎◌, inl, inr, ℕ, ℤ, pos, ◌<◌, List, length, get_or, slice_set, arith, sym, ap, ◌∙◌}
use Rattle.std.proofs.lemmas.List.{ext_get_or, get_or-set_same, get_or-set_other, length-set}
use Rattle.std.proofs.lemmas.List.FromFn.{length-map-range_with_len, get_or-map-range_with_len}
use Rattle.d_bill.specs.Totals.{values_of}

-- a value in its place
pub values_read : (n : ℕ) (f : ℕ → ℤ) (k : ℕ) (d : ℤ) → k < n → get_or (values_of n f) k d ≡ f k
unfolding values_of
values_read n f k d below = get_or-map-range_with_len f 0 n k k d below (omega arith)

-- how many values there are
pub values_long : (n : ℕ) (f : ℕ → ℤ) → length (values_of n f) ≡ n
unfolding values_of
values_long n f = length-map-range_with_len f 0 n

-- the same values
pub values_same : (n : ℕ) (f g : ℕ → ℤ) → ((k : ℕ) → k < n → f k ≡ g k) → values_of n f ≡ values_of n g
values_same n f g same =
    ext_get_or (pos 0) (values_of n f) (values_of n g) (values_long n f ∙ sym (values_long n g))
    (λ k below. let inside : k < n = omega (arith, values_long n f) in values_read n f k (pos 0) inside ∙ same k inside ∙ sym (values_read n g k (pos 0) inside))

-- a list is its values
pub values_all : (n : ℕ) (l : List ℤ) (f : ℕ → ℤ) → length l ≡ n → ((k : ℕ) → k < n → get_or l k (pos 0) ≡ f k) → l ≡ values_of n f
values_all n l f long each =
    ext_get_or (pos 0) l (values_of n f) (long ∙ sym (values_long n f))
    (λ k below. let inside : k < n = omega (arith, long) in each k inside ∙ sym (values_read n f k (pos 0) inside))

-- one value is written
pub values_set : (n : ℕ) (f g : ℕ → ℤ) (k : ℕ) (v : ℤ) → k < n → v ≡ g k → ((j : ℕ) → j < n → (j ≡ k → ⊥) → f j ≡ g j) → slice_set (values_of n f) k v ≡ values_of n g
values_set n f g k v below here others =
    values_all n (slice_set (values_of n f) k v) g (length-set (values_of n f) k v ∙ values_long n f) (λ j inside. by_place j inside (same_or_not j k))
  where
    same_or_not : (j k : ℕ) → (j ≡ k) ⊎ (j ≡ k → ⊥)
    same_or_not j k = grind arith

    by_place : (j : ℕ) → j < n → (j ≡ k) ⊎ (j ≡ k → ⊥) → get_or (slice_set (values_of n f) k v) j (pos 0) ≡ g j
    by_place j inside (inl e) =
        ap (λ (m : ℕ). get_or (slice_set (values_of n f) k v) m (pos 0)) e ∙ get_or-set_same (values_of n f) k v (pos 0) (omega (arith, values_long n f)) ∙ here ∙ ap g (sym e)
    by_place j inside (inr apart) = get_or-set_other (values_of n f) k j v (pos 0) apart ∙ values_read n f j (pos 0) inside ∙ others j inside apart

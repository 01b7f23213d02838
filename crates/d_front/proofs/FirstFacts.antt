-- That what the heap has for its greatest is the key that comes first.
use Rattle.std.proofs.Common.{arith, rules, ℕ, ℤ, Bool, true, false, ◌≡◌, ◌<◌, ◌≤◌, ◌<ℤ◌, ◌⊎◌, inl, inr, List, [], ◌∷◌, sym, refl, All}
use Rattle.std.specs.BinaryHeap.{IsUpperBound}
use Rattle.std.specs.Cmp.{ranks, int_ranks}
use Rattle.std.specs.Ordering.{is_lt, nat_cmp, int_cmp, bool_cmp, ordering_then, MatchOrdering}
use Rattle.std.specs.declared.cmp.Ordering.{Ordering}
use Rattle.std.specs.declared.cmp.Ordering.TheVariants.{Less, Equal, Greater}
use Rattle.std.specs.declared.cmp.Reverse.{Reverse}
use Rattle.std.proofs.lemmas.List.Elements.{All-nil, All-cons}
use Rattle.d_front.specs.declared.key.Key.{Key}
use Rattle.d_front.specs.Keys.{rank, ComesFirst, key_cmp}
use Rattle.d_front.specs.Fronts.{shown, last_cmp}

-- by number
number_first : (m n : ℕ) (o : Ordering) → MatchOrdering o (n < m) (n ≡ m) (m < n) → is_lt o ≡ false → m ≤ n
number_first m n Less h e = search rules
number_first m n Equal h e = omega (arith, h)
number_first m n Greater h e = omega (arith, h)

-- by rank, and then by number
rank_first : (p q : Bool) (m n : ℕ) → is_lt (ordering_then (bool_cmp p q) (nat_cmp n m)) ≡ false → (rank p < rank q) ⊎ ((rank p ≡ rank q) × (m ≤ n))
rank_first true true m n e = inr (refl, number_first m n (nat_cmp n m) (ranks n m) e)
rank_first true false m n e = inl (omega arith)
rank_first false true m n e = search rules
rank_first false false m n e = inr (refl, number_first m n (nat_cmp n m) (ranks n m) e)

-- by bound, and then as above
bound_first : (x y : ℤ) (p q : Bool) (m n : ℕ) (o : Ordering) → MatchOrdering o (y <ℤ x) (y ≡ x) (x <ℤ y) → is_lt (ordering_then (ordering_then o (bool_cmp p q)) (nat_cmp n m)) ≡ false → (x <ℤ y) ⊎ ((x ≡ y) × ((rank p < rank q) ⊎ ((rank p ≡ rank q) × (m ≤ n))))
bound_first x y p q m n Less h e = search rules
bound_first x y p q m n Equal h e = inr (sym h, rank_first p q m n e)
bound_first x y p q m n Greater h e = inl h

-- a key comes before each that isn't less
first_from_cmp : (a b : Key) → is_lt (key_cmp b a) ≡ false → ComesFirst a b
first_from_cmp a b e = bound_first a.bound b.bound a.point b.point a.node b.node (int_cmp b.bound a.bound) (int_ranks b.bound a.bound) e

-- what no key of the heap is above comes first of all
pub all_first : (k : Reverse Key) (xs : List (Reverse Key)) → IsUpperBound last_cmp k xs → All (ComesFirst k.0) (shown xs)
all_first k [] h = All-nil (ComesFirst k.0)
all_first k (x ∷ xs) h = All-cons (ComesFirst k.0) x.0 (shown xs) (first_from_cmp k.0 x.0 h.0) (all_first k xs h.1)

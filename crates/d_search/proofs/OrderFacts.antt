-- Numbers that may be none, and the order of keys.
use Rattle.std.proofs.Common.{◌≡◌, ◌⊎◌, inl, inr, ◌<◌, ◌≤◌, ℤ, ◌≤ℤ◌, Option, Some, None, Bool, true, false, arith, sym, refl}
use Rattle.std.proofs.lemmas.Bool.{cases_lt}
use Rattle.std.proofs.lemmas.Int.{ints, by_lt_z}
use Rattle.d_bound.specs.BoxLaws.{IsAtMost}
use Rattle.d_front.specs.declared.key.Key.{Key}
use Rattle.d_front.specs.Keys.{rank, ComesFirst}
use Rattle.d_search.specs.Rules.{IsBelow}

-- none is above every number
pub at_most_none : (x : Option ℤ) → IsAtMost x None
at_most_none None = tt
at_most_none (Some x) = tt

pub at_most_refl : (x : Option ℤ) → IsAtMost x x
at_most_refl None = tt
at_most_refl (Some x) = omega (arith, ints)

pub at_most_trans : (x y z : Option ℤ) → IsAtMost x y → IsAtMost y z → IsAtMost x z
at_most_trans x y None a b = at_most_none x
at_most_trans None None (Some z) a b = b
at_most_trans None (Some y) (Some z) a b = absurd a
at_most_trans (Some x) None (Some z) a b = absurd b
at_most_trans (Some x) (Some y) (Some z) a b = omega (arith, ints)

-- a number is below another or isn't
pub below_or : (x : ℤ) (y : Option ℤ) → IsBelow (Some x) y ⊎ IsAtMost y (Some x)
below_or x None = inl tt
below_or x (Some y) = by_lt_z x y inl inr

pub not_both : (x : ℤ) (y : Option ℤ) → IsBelow (Some x) y → IsAtMost y (Some x) → ⊥
not_both x None a b = b
not_both x (Some y) a b = omega (arith, ints)

-- below a number that isn't above another
pub below_at_most : (x y : ℤ) (z : Option ℤ) → IsBelow (Some x) (Some y) → IsAtMost (Some y) z → IsBelow (Some x) z
below_at_most x y None a b = tt
below_at_most x y (Some z) a b = omega (arith, ints)

pub same_from_both : (x y : ℤ) → x ≤ℤ y → y ≤ℤ x → x ≡ y
same_from_both x y a b = omega (arith, ints)

pub at_most_self : (x : ℤ) → x ≤ℤ x
at_most_self x = omega (arith, ints)

-- the bound of a key that comes first isn't above the other's
pub key_bound : (a b : Key) → ComesFirst a b → a.bound ≤ℤ b.bound
key_bound a b (inl less) = omega (arith, ints)
key_bound a b (inr rest) = let e = rest.0 in omega (arith, ints)

-- two keys of which each comes first have the same number
pub same_number : (a b : Key) → ComesFirst a b → ComesFirst b a → a.node ≡ b.node
same_number a b (inl less) other = absurd (let le = key_bound b a other in omega (arith, ints))
same_number a b (inr rest) (inl less) = absurd (let e = rest.0 in omega (arith, ints))
same_number a b (inr rest) (inr other) = by_rank rest.1 other.1
  where
    by_rank : (rank a.point < rank b.point) ⊎ ((rank a.point ≡ rank b.point) × (a.node ≤ b.node))
        → (rank b.point < rank a.point) ⊎ ((rank b.point ≡ rank a.point) × (b.node ≤ a.node)) → a.node ≡ b.node
    by_rank (inl x) (inl y) = absurd (omega arith)
    by_rank (inl x) (inr y) = absurd (let e = y.0 in omega arith)
    by_rank (inr x) (inl y) = absurd (let e = x.0 in omega arith)
    by_rank (inr x) (inr y) = let p = x.1 in let q = y.1 in omega arith

-- of two keys one comes first
pub one_first : (a b : Key) → ComesFirst a b ⊎ ComesFirst b a
one_first a b = by_lt_z a.bound b.bound (λ less. inl (inl less)) (λ more. by_lt_z b.bound a.bound (λ less. inr (inl less)) (λ le. by_rank (same_from_both a.bound b.bound le more)))
  where
    by_number : a.bound ≡ b.bound → rank a.point ≡ rank b.point → ComesFirst a b ⊎ ComesFirst b a
    by_number same rank_same = elim (cases_lt a.node b.node) [
      | inl less ↦ inl (inr (same, inr (rank_same, omega arith)))
      | inr more ↦ inr (inr (sym same, inr (sym rank_same, more)))
    ]

    by_rank : a.bound ≡ b.bound → ComesFirst a b ⊎ ComesFirst b a
    by_rank same = elim (cases_lt (rank a.point) (rank b.point)) [
      | inl less ↦ inl (inr (same, inl less))
      | inr more ↦ elim (cases_lt (rank b.point) (rank a.point)) [
        | inl less ↦ inr (inr (sym same, inl less))
        | inr le ↦ by_number same (omega arith)
      ]
    ]

pub first_trans : (a b c : Key) → ComesFirst a b → ComesFirst b c → ComesFirst a c
first_trans a b c (inl x) other = inl (let le = key_bound b c other in omega (arith, ints))
first_trans a b c (inr x) (inl y) = inl (let e = x.0 in omega (arith, ints))
first_trans a b c (inr x) (inr y) = inr (let e = x.0 in let f = y.0 in omega (arith, ints), by_rank x.1 y.1)
  where
    by_rank : (rank a.point < rank b.point) ⊎ ((rank a.point ≡ rank b.point) × (a.node ≤ b.node))
        → (rank b.point < rank c.point) ⊎ ((rank b.point ≡ rank c.point) × (b.node ≤ c.node))
        → (rank a.point < rank c.point) ⊎ ((rank a.point ≡ rank c.point) × (a.node ≤ c.node))
    by_rank (inl p) (inl q) = inl (omega arith)
    by_rank (inl p) (inr q) = inl (let e = q.0 in omega arith)
    by_rank (inr p) (inl q) = inl (let e = p.0 in omega arith)
    by_rank (inr p) (inr q) = let e = p.0 in let f = q.0 in let g = p.1 in let h = q.1 in inr (omega arith, omega arith)

-- of equal bounds a point would come first
pub point_first : (a b : Key) → ComesFirst a b → a.bound ≡ b.bound → a.point ≡ false → b.point ≡ false
point_first a b (inl less) same not_point = absurd (omega (arith, ints))
point_first a b (inr rest) same not_point = by_point b.point a.point refl refl not_point
  where
    ranks : rank a.point ≤ rank b.point
    ranks = elim rest.1 [ inl less ↦ omega arith | inr more ↦ let e = more.0 in omega arith ]

    by_point : (p q : Bool) → b.point ≡ p → a.point ≡ q → q ≡ false → p ≡ false
    by_point false q is_p is_q e = refl
    by_point true false is_p is_q e = absurd (none (rw (is_q, is_p) at ranks))
      where
        none : 1 ≤ 0 → ⊥
        none le = omega arith
    by_point true true is_p is_q e = e

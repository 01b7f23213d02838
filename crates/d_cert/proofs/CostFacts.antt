-- Each row of least costs is one.
use Rattle.std.proofs.Common.{◌≡◌, ◌⊎◌, inl, inr, ℕ, ◌+◌, ◌-◌, ◌<◌, List, length, get_or, arith, sym, refl, ap, subst}
use Rattle.std.proofs.lemmas.Int.{ints}
use Rattle.std.proofs.lemmas.List.{ext_get_or}
use Rattle.d_num.specs.declared.pot.Pot.{Pot}
use Rattle.d_num.specs.declared.pot.Pot.TheVariants.{To, NoWay}
use Rattle.d_num.specs.Pot.{AtMost}
use Rattle.d_path.specs.Arcs.{Arcs, way_cost}
use Rattle.d_path.specs.Cheapest.{IsCheapest, entry}
use Rattle.d_cert.specs.Written.{IsRow}

both_most : (p q : Pot) → AtMost p q → AtMost q p → p ≡ q
both_most (To x) (To y) a b = ap To (omega (arith, ints))
both_most (To x) NoWay a b = absurd b
both_most NoWay (To y) a b = absurd a
both_most NoWay NoWay a b = refl

below_none : (p : Pot) → AtMost p NoWay
below_none (To x) = tt
below_none NoWay = tt

-- a cheapest cost isn't above another
not_above : (a : Arcs) (t level : ℕ) (p q : Pot) → IsCheapest a t level p → IsCheapest a t level q → AtMost p q
not_above a t level p q one other = by_way other.reached
  where
    by_way : (q ≡ NoWay) ⊎ ((ms : List ℕ) × (way_cost a t level ms ≡ q)) → AtMost p q
    by_way (inl none) = subst (λ (r : Pot). AtMost p r) (sym none) (below_none p)
    by_way (inr (ms, is)) = subst (λ (r : Pot). AtMost p r) is (one.least ms)

cheapest_one : (a : Arcs) (t level : ℕ) (p q : Pot) → IsCheapest a t level p → IsCheapest a t level q → p ≡ q
cheapest_one a t level p q one other = both_most p q (not_above a t level p q one other) (not_above a t level q p other one)

-- at the k-th level both rows have the same
pub row_one : (a : Arcs) (t : ℕ) (one other : List Pot) → IsRow a t one → IsRow a t other → one ≡ other
row_one a t one other is also = ext_get_or NoWay one other (omega (arith, is.wide, also.wide)) at
  where
    at : (k : ℕ) → k < length one → get_or one k NoWay ≡ get_or other k NoWay
    at k inside =
        let place : (a.floor + k) - a.floor ≡ k = omega arith in
        let same = cheapest_one a t (a.floor + k) (entry a one (a.floor + k)) (entry a other (a.floor + k))
        (is.cheapest (a.floor + k) (omega arith) (omega (arith, is.wide, inside))) (also.cheapest (a.floor + k) (omega arith) (omega (arith, is.wide, inside))) in
        subst (λ (j : ℕ). get_or one j NoWay ≡ get_or other j NoWay) place same

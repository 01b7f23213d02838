-- Rows of least costs, column by column and row by row.
use Rattle.std.proofs.Common.{◌≡◌, ◌+◌, ◌-◌, ◌≤◌, ◌<◌, ◌^◌, ℕ, pos, List, [], length, cond, nat_le, ◌==◌, ◌&&◌, sym, subst, ◌∙◌, arith, inl, inr, ◌≢◌, slice_index_or, slice_set}
use Rattle.std.specs.List.{All}
use Rattle.std.proofs.lemmas.Bool.Decides.{nat_tests}
use Rattle.std.proofs.lemmas.List.{get_or-set_same, get_or-set_other}
use Rattle.std.proofs.lemmas.List.Elements.{All-from_get_or}
use Rattle.d_num.specs.declared.pot.Pot.{Pot}
use Rattle.d_num.specs.declared.pot.Pot.TheVariants.{To, NoWay}
use Rattle.d_num.specs.Pot.{IsPotWithin}
use Rattle.d_path.specs.Arcs.{Arcs, intervals_of, way_cost, IsSound}
use Rattle.d_path.specs.Cheapest.{IsCheapest, HasCheapest, entry}
use Rattle.d_path.proofs.WayLemmas.{cheapest_within}
use Rattle.d_path.proofs.StepLemmas.{below?, cheapest_end}

-- each of the first columns has the least cost from its level
abbrev pub AreCheapestBelow : Arcs → ℕ → List Pot → ℕ → Type 0
AreCheapestBelow a t row count = (column : ℕ) → column < count → IsCheapest a t (a.floor + column) (slice_index_or row column NoWay)

-- one more column
pub columns_more : (a : Arcs) (t : ℕ) (row : List Pot) (column level : ℕ) (p : Pot) → AreCheapestBelow a t row column → column < length row → level ≡ a.floor + column → IsCheapest a t level p → AreCheapestBelow a t (slice_set row column p) (column + 1)
columns_more a t row column level p sofar lt at here i less = elim (below? i column) [
  | inl before ↦
      let other : i ≢ column = omega arith in
      subst (λ (q : Pot). IsCheapest a t (a.floor + i) q) (sym (get_or-set_other row column i p NoWay other)) (sofar i before)
  | inr ge ↦
      let same : column ≡ i = omega arith in
      subst (λ (j : ℕ). IsCheapest a t (a.floor + j) (slice_index_or (slice_set row column p) j NoWay)) same
      (subst (λ (q : Pot). IsCheapest a t (a.floor + column) q) (sym (get_or-set_same row column p NoWay lt))
      (subst (λ (l : ℕ). IsCheapest a t l p) at here))
]

-- all columns are a row of least costs
pub columns_all : (a : Arcs) (t : ℕ) (row : List Pot) → a.floor + length row ≡ a.capacity + 1 → AreCheapestBelow a t row (length row) → HasCheapest a t row
columns_all a t row wide each level low high =
    let at : a.floor + (level - a.floor) ≡ level = omega arith in
    subst (λ (l : ℕ). IsCheapest a t l (entry a row level)) at (each (level - a.floor) (omega arith))

-- a row of least costs is in range
pub row_within : (a : Arcs) (t : ℕ) (row : List Pot) → IsSound a → a.floor + length row ≡ a.capacity + 1 → HasCheapest a t row → All (IsPotWithin (10 ^ 36)) row
row_within a t row sound wide cheapest =
    All-from_get_or (IsPotWithin (10 ^ 36)) row NoWay (λ i lt.
    let at : (a.floor + i) - a.floor ≡ i = omega arith in
    cheapest_within a t (a.floor + i) (slice_index_or row i NoWay) sound
    (subst (λ (j : ℕ). IsCheapest a t (a.floor + i) (slice_index_or row j NoWay)) at (cheapest (a.floor + i) (omega arith) (omega arith))))

-- what a way costs that has ended, by whether it may end there
pub end_cost : (a : Arcs) (level : ℕ) → way_cost a (intervals_of a) level [] ≡ cond (nat_le a.end level) (To (pos 0)) NoWay
end_cost a level = go (intervals_of a) a.end level
  where
    go : (n end level : ℕ) → cond (n == n && nat_le end level) (To (pos 0)) NoWay ≡ cond (nat_le end level) (To (pos 0)) NoWay
    go n end level = grind (arith, nat_tests)

-- where a way may end nothing is the least cost, and elsewhere none
pub end_at : (a : Arcs) (level : ℕ) → IsSound a → a.end ≤ level → IsCheapest a (intervals_of a) level (To (pos 0))
end_at a level sound h = subst (λ (p : Pot). IsCheapest a (intervals_of a) level p) (end_cost a level ∙ allowed a.end level h) (cheapest_end a (intervals_of a) level sound (omega arith))
  where
    allowed : (end level : ℕ) → end ≤ level → cond (nat_le end level) (To (pos 0)) NoWay ≡ To (pos 0)
    allowed end level h = grind (arith, nat_tests)

pub end_below : (a : Arcs) (level : ℕ) → IsSound a → level < a.end → IsCheapest a (intervals_of a) level NoWay
end_below a level sound h = subst (λ (p : Pot). IsCheapest a (intervals_of a) level p) (end_cost a level ∙ barred a.end level h) (cheapest_end a (intervals_of a) level sound (omega arith))
  where
    barred : (end level : ℕ) → level < end → cond (nat_le end level) (To (pos 0)) NoWay ≡ NoWay
    barred end level h = grind (arith, nat_tests)

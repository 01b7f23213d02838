-- The least of finitely many costs, and the first place that has it.
use Rattle.std.specs.Prelude.{ℕ, ◌≤◌, None, ◌≡◌, ◌≢◌, ◌<◌, ◌⊎◌, ◌+◌, Some, List, ◌∷◌, length, slice_index_or}
use Rattle.d_num.specs.declared.pot.Pot.{Pot}
use Rattle.d_num.specs.declared.pot.Pot.TheVariants.{NoWay}
use Rattle.d_num.specs.Pot.{AtMost}
use Rattle.d_path.specs.declared.ways.Move.{Move}
use Rattle.d_path.specs.Arcs.{Arcs, next_level, arc_cost, along, level_after}
use Rattle.d_path.specs.Cheapest.{entry, IsFirstCheapest}

-- among the first k places this is the first that has p
pub record IsFirstPlace (f : ℕ → Pot) (k : ℕ) (p : Pot) (place : ℕ) : Type 0 where
  pub inside : place < k
  pub has : f place ≡ p
  pub first : (m : ℕ) → m < place → f m ≢ p

-- p is the least of the costs at the first k places, and this is the first place that has it, or p is NoWay
pub record IsFirstBest (f : ℕ → Pot) (k : ℕ) (p : Pot) (place : ℕ) : Type 0 where
  pub least : (m : ℕ) → m < k → AtMost p (f m)
  pub there : (p ≡ NoWay) ⊎ IsFirstPlace f k p place

-- p is the least of the costs at the first k places, or NoWay
pub record IsLeastOf (f : ℕ → Pot) (k : ℕ) (p : Pot) : Type 0 where
  pub least : (m : ℕ) → m < k → AtMost p (f m)
  pub reached : (p ≡ NoWay) ⊎ ((m : ℕ) × (m < k) × (f m ≡ p))

-- r is the lesser of p and q
pub record IsLesser (p q r : Pot) : Type 0 where
  pub one_of_both : (r ≡ p) ⊎ (r ≡ q)
  pub below_first : AtMost r p
  pub below_second : AtMost r q

-- this move can be made from so many columns, the first of which is `from`; it leads to as many, the first of which is `to`;
-- and it can be made from no other column up to the capacity
pub record IsSpan (a : Arcs) (move : Move) (from to count : ℕ) : Type 0 where
  pub inside : (i : ℕ) → i < count → a.floor + (from + i) ≤ a.capacity
  pub leads : (i : ℕ) → i < count → next_level a (a.floor + (from + i)) move ≡ Some (a.floor + (to + i))
  pub not_below : (column : ℕ) → column < from → next_level a (a.floor + column) move ≡ None
  pub not_above : (column : ℕ) → from + count ≤ column → a.floor + column ≤ a.capacity → next_level a (a.floor + column) move ≡ None

-- each entry of a row is the lesser of what it was and of the cost by this move, where the next row says what comes after
abbrev pub IsLowered : Arcs → Move → Pot → List Pot → List Pot → List Pot → Type 0
IsLowered a move cost next old new =
    (column : ℕ) → column < length old →
    IsLesser (slice_index_or old column NoWay) (along cost (next_level a (a.floor + column) move) (entry a next)) (slice_index_or new column NoWay)

-- what it costs to go on from this level by the move of this number, where the moves cost this much and the row says what comes after
abbrev pub cost_by : Arcs → List Pot → List Pot → ℕ → ℕ → Pot
cost_by a costs next level m = along (slice_index_or costs m NoWay) (level_after a level m) (entry a next)

-- this move begins the first cheapest way from this level at interval t, and leads to that level after it
pub record IsFirstMove (a : Arcs) (t level : ℕ) (next : List Pot) (number after : ℕ) : Type 0 where
  pub leads : level_after a level number ≡ Some after
  pub there : entry a next after ≢ NoWay
  pub begins : (tail : List ℕ) → IsFirstCheapest a (t + 1) after tail → IsFirstCheapest a t level (number ∷ tail)

-- the moves of interval t cost this much
pub record AreCostsAt (a : Arcs) (t : ℕ) (costs : List Pot) : Type 0 where
  pub long : length costs ≡ length a.moves
  pub same : (m : ℕ) → m < length a.moves → slice_index_or costs m NoWay ≡ arc_cost a t m

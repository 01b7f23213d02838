-- The least cost over all ways, the first way of that cost, and rows of least costs. All of it is our own rule.
use Rattle.std.specs.Prelude.{ℕ, ◌+◌, ◌-◌, ◌≡◌, ◌≢◌, ◌≤◌, ◌⊎◌, List, length, slice_index_or}
use Rattle.std.specs.List.{All}
use Rattle.d_list.specs.Order.{IsNotAfter}
use Rattle.d_num.specs.declared.pot.Pot.{Pot}
use Rattle.d_num.specs.declared.pot.Pot.TheVariants.{NoWay}
use Rattle.d_num.specs.Pot.{AtMost}
use Rattle.d_path.specs.Arcs.{Arcs, way_cost}

-- no way from this level at interval t costs less than p, and p is NoWay or the cost of some way
pub record IsCheapest (a : Arcs) (t level : ℕ) (p : Pot) : Type 0 where
  pub least : (ms : List ℕ) → AtMost p (way_cost a t level ms)
  pub reached : (p ≡ NoWay) ⊎ ((ms : List ℕ) × (way_cost a t level ms ≡ p))

-- some way leads on from this level at interval t
abbrev pub HasWay : Arcs → ℕ → ℕ → Type 0
HasWay a t level = (ms : List ℕ) × (way_cost a t level ms ≢ NoWay)

-- s is a way from this level at interval t, none costs less, and it is the first of those that cost as much
pub record IsFirstCheapest (a : Arcs) (t level : ℕ) (s : List ℕ) : Type 0 where
  pub way : way_cost a t level s ≢ NoWay
  pub least : (ms : List ℕ) → AtMost (way_cost a t level s) (way_cost a t level ms)
  pub first : (ms : List ℕ) → way_cost a t level ms ≡ way_cost a t level s → IsNotAfter s ms

-- what a row says of a level: its first column is the floor
abbrev pub entry : Arcs → List Pot → ℕ → Pot
entry a row level = slice_index_or row (level - a.floor) NoWay

-- at each level from floor to capacity this row has the least cost from there at interval t
abbrev pub HasCheapest : Arcs → ℕ → List Pot → Type 0
HasCheapest a t row = (level : ℕ) → a.floor ≤ level → level ≤ a.capacity → IsCheapest a t level (entry a row level)

-- each row has one column per level from floor to capacity
abbrev pub IsWide : ℕ → ℕ → List (List Pot) → Type 0
IsWide floor capacity layers = All (λ row. floor + length row ≡ capacity + 1) layers

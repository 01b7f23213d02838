-- Intervals, levels and moves, and what a way costs. All of it is our own rule.
use Rattle.std.specs.Prelude.{ℕ, pos, ◌+◌, ◌*◌, ◌/◌, ◌^◌, ◌+ℤ◌, ◌≡◌, ◌≤◌, ◌<◌, List, [], ◌∷◌, Option, Some, None, length, slice_get, slice_index_or, option_and_then, nat_abs, nat_le, int_le, ◌==◌, ◌&&◌, if◌then◌else◌}
use Rattle.std.specs.List.{All}
use Rattle.d_num.specs.declared.pot.Pot.{Pot}
use Rattle.d_num.specs.declared.pot.Pot.TheVariants.{To, NoWay}
use Rattle.d_num.specs.Pot.{joined, IsPotWithin}
use Rattle.d_path.specs.declared.ways.Move.{Move}
use Rattle.d_path.specs.declared.ways.Ways.{Ways}

-- the moves that there are, what each costs in each interval (interval by interval), the levels that a way may pass,
-- the level where it starts and the least level at which it may end
pub record Arcs : Type 0 where
  pub costs : List Pot
  pub moves : List Move
  pub floor : ℕ
  pub capacity : ℕ
  pub start : ℕ
  pub end : ℕ

-- the values that a `Ways` points to
abbrev pub arcs_of : Ways → Arcs
arcs_of ways = record {
  costs = ways.costs.now;
  moves = ways.moves.now;
  floor = ways.floor;
  capacity = ways.capacity;
  start = ways.start;
  end = ways.end;
}

-- the level after a move that begins at this level; none where the level isn't in the move's range, or where the
-- level after it would be below the floor or above the capacity
abbrev pub next_level : Arcs → ℕ → Move → Option ℕ
next_level a level move =
    let after = pos level +ℤ move.change in
    if (nat_le move.low level && nat_le level move.high) && (int_le (pos a.floor) after && int_le after (pos a.capacity)) then Some (nat_abs after) else None

-- the level after the move of this number; none where there is no such move
abbrev pub level_after : Arcs → ℕ → ℕ → Option ℕ
level_after a level m = option_and_then (next_level a level) (slice_get a.moves m)

-- what the move of this number costs in interval t
abbrev pub arc_cost : Arcs → ℕ → ℕ → Pot
arc_cost a t m = slice_index_or a.costs (t * length a.moves + m) NoWay

-- how many intervals there are
abbrev pub intervals_of : Arcs → ℕ
intervals_of a = length a.costs / length a.moves

-- a step of this cost to that level, if it can be made, and what comes after it
abbrev pub along : Pot → Option ℕ → (ℕ → Pot) → Pot
along cost None rest = NoWay
along cost (Some after) rest = joined cost (rest after)

-- what it costs to go on from this level at interval t by the moves of these numbers, one an interval; NoWay where that is no way
abbrev pub way_cost : Arcs → ℕ → ℕ → List ℕ → Pot
way_cost a t level [] = if t == intervals_of a && nat_le a.end level then To (pos 0) else NoWay
way_cost a t level (m ∷ ms) = along (arc_cost a t m) (level_after a level m) (λ after. way_cost a (t + 1) after ms)

-- the arcs are whole and within the limits: one cost per interval and move, 1 to 64 moves, at most 10^4 intervals,
-- each cost no way or at most 10^32 in size, start between floor and capacity, end at most capacity
pub record IsSound (a : Arcs) : Type 0 where
  pub some_move : 0 < length a.moves
  pub few_moves : length a.moves ≤ 64
  pub few_intervals : intervals_of a ≤ 10 ^ 4
  pub all_costs : length a.costs ≡ intervals_of a * length a.moves
  pub costs_within : All (IsPotWithin (10 ^ 32)) a.costs
  pub start_in : (a.floor ≤ a.start) × (a.start ≤ a.capacity)
  pub end_in : a.end ≤ a.capacity

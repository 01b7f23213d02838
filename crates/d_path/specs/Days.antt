-- Rows of least costs at day ends, and those of one day between them. All of it is our own rule.
use Rattle.std.specs.Prelude.{ℕ, ◌≡◌, ◌+◌, ◌-◌, ◌*◌, ◌<◌, ◌≤◌, ◌++◌, List, [], length, take, slice_index_or, set}
use Rattle.d_num.specs.declared.pot.Pot.{Pot}
use Rattle.d_rows.specs.Days.{DayRows}
use Rattle.d_path.specs.Arcs.{Arcs, intervals_of}
use Rattle.d_path.specs.Cheapest.{HasCheapest, HasWay, IsFirstCheapest, IsWide}

-- how many intervals a day has
abbrev pub per_day_of : DayRows → ℕ
per_day_of r = length r.window + 1

-- there is a day, the intervals are all those of the days, and each row has one column per level from floor to capacity
pub record FitsDays (a : Arcs) (r : DayRows) : Type 0 where
  pub some_day : 1 < length r.kept
  pub intervals : (length r.kept - 1) * per_day_of r ≡ intervals_of a
  pub kept_wide : IsWide a.floor a.capacity r.kept
  pub window_wide : IsWide a.floor a.capacity r.window

-- each kept row has the least costs at the beginning of its day, the last one those at the month's end
abbrev pub AreKeptCheapest : Arcs → DayRows → Type 0
AreKeptCheapest a r = (d : ℕ) → d < length r.kept → HasCheapest a (d * per_day_of r) (slice_index_or r.kept d [])

-- the rows of the window have the least costs at the inner layers of this day
abbrev pub AreInnerCheapest : Arcs → ℕ → DayRows → Type 0
AreInnerCheapest a day r = (j : ℕ) → j < length r.window → HasCheapest a (day * per_day_of r + (j + 1)) (slice_index_or r.window j [])

-- kept row d is written with the least costs at interval t, and no other row is changed
pub record WritesKept (a : Arcs) (t d : ℕ) (old new : DayRows) : Type 0 where
  pub row : List Pot
  pub wide : a.floor + length row ≡ a.capacity + 1
  pub cheapest : HasCheapest a t row
  pub kept : new.kept ≡ set old.kept d row
  pub window : new.window ≡ old.window

-- the first t moves of s lead from the start to this level, from which a way is there, and begin the first cheapest way
pub record IsOnWay (a : Arcs) (t level : ℕ) (s : List ℕ) : Type 0 where
  pub level_in : (a.floor ≤ level) × (level ≤ a.capacity)
  pub there : HasWay a t level
  pub so_far : (tail : List ℕ) → IsFirstCheapest a t level tail → IsFirstCheapest a 0 a.start (take t s ++ tail)

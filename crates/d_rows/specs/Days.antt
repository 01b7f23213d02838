-- Rows at day ends, and those of one day between its ends. All of it is our own rule.
use Rattle.std.specs.Prelude.{ℕ, zero, suc, ◌+◌, List, [], cond, eqb, length, slice_index_or}
use Rattle.d_num.specs.declared.pot.Pot.{Pot}
use Rattle.d_rows.specs.Blocks.{with_row}

-- a row for the beginning of each day and one for the end of the last, and a window of rows for one day between its ends
pub record DayRows : Type 0 where
  pub kept : List (List Pot)
  pub window : List (List Pot)

-- row i of a day: its first and its last are kept, and those between them stand in the window
abbrev pub day_row : DayRows → ℕ → ℕ → List Pot
day_row r day zero = slice_index_or r.kept day []
day_row r day (suc i) = cond (eqb i (length r.window)) (slice_index_or r.kept (day + 1) []) (slice_index_or r.window i [])

-- the rows with what was written in the place of row i of a day, which is not its last
abbrev pub with_day_row : DayRows → ℕ → ℕ → List Pot → DayRows
with_day_row r day zero ws = record { kept = with_row r.kept day ws; window = r.window }
with_day_row r day (suc i) ws = record { kept = r.kept; window = with_row r.window i ws }

-- where row i of a day stands among all rows: the kept ones come first
abbrev pub place : ℕ → ℕ → ℕ → ℕ → ℕ
place days per_day day zero = day
place days per_day day (suc i) = cond (eqb (suc i) per_day) (day + 1) (days + suc i)

-- The levels that are read.
use Rattle.std.specs.Prelude.{ℕ, List}
use Rattle.d_batt.specs.declared.level.Levels.{Levels}
use Rattle.d_batt.specs.BatteryFile.{capacity_of, floor_of, start_of, end_of}
use Rattle.d_batt.specs.Numbers.{Reads}

-- they are those of the rows
pub record AreLevels (rows : List (List (List ℕ))) (levels : Levels) : Type 0 where
  pub capacity : Reads (λ reader. capacity_of reader rows) levels.capacity
  pub floor : Reads (λ reader. floor_of reader rows) levels.floor
  pub start : Reads (λ reader. start_of reader rows) levels.start
  pub end : Reads (λ reader. end_of reader rows) levels.end

-- How many boxes a search may look at where nothing else is asked. The limits are our own rule.
use Rattle.std.specs.Prelude.{◌≡◌, ℕ, ◌+◌, ◌*◌, ◌/◌, ◌%◌, ◌^◌, ◌≤◌}

-- the product of sizes: half the budget, rounded up, times the layers of a month with so many intervals, times the levels
abbrev pub product : ℕ → ℕ → ℕ → ℕ
product budget intervals levels = ((budget + 1) / 2) * ((intervals + 1) * levels)

-- the greatest odd number up to 255 whose product of sizes is at most 2^24
pub record IsDefaultBudget (intervals levels budget : ℕ) : Type 0 where
  pub some : 1 ≤ budget
  pub odd : budget % 2 ≡ 1
  pub most : budget ≤ 255
  pub within : product budget intervals levels ≤ 2 ^ 24
  pub greatest : (other : ℕ) → other % 2 ≡ 1 → other ≤ 255 → product other intervals levels ≤ 2 ^ 24 → other ≤ budget

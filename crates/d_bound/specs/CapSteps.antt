-- Steps of finding caps and of writing what is within them; only private functions cite these words.
use Rattle.std.specs.Prelude.{◌≡◌, ℕ, ℤ, pos, ◌<◌, ◌^◌, ◌≤ℤ◌, List, length, slice_index_or, int_le, if◌then◌else◌}
use Rattle.std.specs.Int.{int_min}
use Rattle.d_num.specs.declared.pot.Pot.{Pot}
use Rattle.d_num.specs.declared.pot.Pot.TheVariants.{NoWay}
use Rattle.d_box.specs.declared.space.Range.{Range}
use Rattle.d_box.specs.declared.space.Space.{Space}
use Rattle.d_bill.specs.Inputs.{Inputs}
use Rattle.d_bound.specs.Caps.{all_below, is_under}

-- the lesser of a cap and of the high end of a range
abbrev pub lesser_cap : ℤ → Range → ℤ
lesser_cap cap range = int_min cap range.high

-- the greatest power within the high ends of the first n groups that hold the interval, of powers up to 10^13 W
abbrev pub IsCapTo : Inputs → Space → ℕ → ℕ → ℤ → Type 0
IsCapTo i space t n cap = (power : ℤ) → power ≤ℤ pos (10 ^ 13) → int_le power cap ≡ all_below n (is_under i space t power)

-- what a power costs within a cap
abbrev pub within_cap : ℤ → ℤ → Pot → Pot
within_cap cap power cost = if int_le power cap then cost else NoWay

-- what the mode at this place costs within a cap
abbrev pub mode_within : ℤ → List Pot → List ℤ → ℕ → Pot
mode_within cap costs powers m = within_cap cap (slice_index_or powers m (pos 0)) (slice_index_or costs m NoWay)

-- the costs of the modes of an interval within its cap
pub record CapsInterval (cap : ℤ) (costs : List Pot) (powers : List ℤ) (capped : List Pot) : Type 0 where
  pub long : length capped ≡ length costs
  pub each : (m : ℕ) → m < length costs → slice_index_or capped m NoWay ≡ mode_within cap costs powers m

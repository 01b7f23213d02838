-- The caps of a box: no group's highest demand may be above the high end of its range, so no power of its intervals may be. Caps are
-- powers in W. All of it is our own rule.
use Rattle.std.specs.Prelude.{ℕ, zero, suc, ℤ, ◌≤ℤ◌, ◌≡◌, ◌<◌, Bool, true, not, ◌||◌, ◌&&◌, List, length, int_le}
use Rattle.d_box.specs.declared.space.Space.{Space}
use Rattle.d_box.specs.Boxes.{range_at}
use Rattle.d_bill.specs.Inputs.{Inputs, is_in_group}
use Rattle.d_bound.specs.PlanWays.{power_at}

-- whether a test is passed by all numbers below n
unfoldable pub all_below : ℕ → (ℕ → Bool) → Bool
all_below zero test = true
all_below (suc n) test = all_below n test && test n

-- whether a power is at most the high end of a group's range, where the group holds the interval
abbrev pub is_under : Inputs → Space → ℕ → ℤ → ℕ → Bool
is_under i space t power group = not (is_in_group i t group) || int_le power (range_at space.peaks group).high

-- whether a power is within the caps of an interval: of all groups that hold it
abbrev pub is_capped : Inputs → Space → ℕ → ℤ → Bool
is_capped i space t power = all_below (length i.peaks) (is_under i space t power)

-- each power of the schedule is within the caps of its interval
abbrev pub KeepsCaps : Inputs → Space → List ℕ → Type 0
KeepsCaps i space s =
    (t group : ℕ) → t < length i.net → is_in_group i t group ≡ true → power_at i s t ≤ℤ (range_at space.peaks group).high

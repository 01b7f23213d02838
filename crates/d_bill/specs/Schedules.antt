-- Schedules, which are lists of mode numbers, one an interval, and the rules that they keep. All rules are our own.
use Rattle.std.specs.Prelude.{◌≡◌, ◌⊎◌, ℕ, ℤ, pos, ◌<◌, ◌≤ℤ◌, ◌<ℤ◌, ◌+ℤ◌, List, Some, length, slice_get, slice_index, option_map, unwrap_or}
use Rattle.d_batt.specs.declared.mode.Mode.{Mode}
use Rattle.d_bill.specs.Inputs.{Inputs}
use Rattle.d_num.specs.Sums.{sum_of_first}
use Rattle.d_bill.specs.Flows.{IsPermitted}

-- by how many levels the mode of this number changes the battery; by 0 where there is no such mode
abbrev pub change_of : Inputs → ℕ → ℤ
change_of i number = unwrap_or (option_map (λ (mode : Mode). mode.change) (slice_get i.storage.modes number)) (pos 0)

-- the level before interval t: the start and the changes of the intervals before t
abbrev pub level_at : Inputs → List ℕ → ℕ → ℤ
level_at i s t = pos i.storage.start +ℤ sum_of_first t (λ k. change_of i (slice_index s k))

-- from this level the mode of this number keeps every rule in interval t
pub record KeepsRules (i : Inputs) (t number : ℕ) (level : ℤ) : Type 0 where
  pub mode : Mode
  pub there : slice_get i.storage.modes number ≡ Some mode
  pub permitted : IsPermitted i t mode
  pub low : pos mode.low ≤ℤ level
  pub high : level ≤ℤ pos mode.high
  pub floor : pos i.storage.floor ≤ℤ (level +ℤ mode.change)
  pub capacity : (level +ℤ mode.change) ≤ℤ pos i.storage.capacity

-- the schedule keeps every rule in interval t
abbrev pub KeepsAt : Inputs → List ℕ → ℕ → Type 0
KeepsAt i s t = KeepsRules i t (slice_index s t) (level_at i s t)

-- one mode an interval, every rule kept in every interval, and no less than the end level after the last
pub record IsFeasible (i : Inputs) (s : List ℕ) : Type 0 where
  pub long : length s ≡ length i.net
  pub keeps : (t : ℕ) → t < length i.net → KeepsAt i s t
  pub ends : pos i.storage.end ≤ℤ level_at i s (length i.net)

-- t is the first interval that breaks a rule, or the number of intervals where only the end level is missed
pub record IsFirstBreak (i : Inputs) (s : List ℕ) (t : ℕ) : Type 0 where
  pub kept : (k : ℕ) → k < t → KeepsAt i s k
  pub breaks : ((t < length i.net) × (¬ KeepsAt i s t)) ⊎ ((t ≡ length i.net) × (level_at i s t <ℤ pos i.storage.end))

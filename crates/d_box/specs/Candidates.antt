-- The candidates of each group: the powers that its highest demand may have. All of it is our own rule.
use Rattle.std.specs.Prelude.{ℕ, ℤ, pos, ◌≤ℤ◌, ◌<ℤ◌, ◌≡◌, ◌⊎◌, ◌<◌, ◌-◌, ◌^◌, Bool, List, [], length, map, slice_index_or, int_le, int_lt, unwrap_or, ◌&&◌, Vec}
use Rattle.std.specs.List.{Contains, All, AllPairs, filter, find}
use Rattle.d_num.specs.Amount.{IsWatt}
use Rattle.std.specs.declared.alloc.Global.{Global}
use Rattle.d_box.specs.Boxes.{IsIn, range_at, number_at}
use Rattle.d_box.specs.declared.space.Range.{Range}
use Rattle.d_box.specs.declared.space.Space.{Space}

-- each number is below all later ones
abbrev pub IsRising : List ℤ → Type 0
IsRising numbers = AllPairs (λ x y. x <ℤ y) numbers

-- both lists have the same numbers
abbrev pub HaveSameMembers : List ℤ → List ℤ → Type 0
HaveSameMembers old new = ((x : ℤ) → Contains old x → Contains new x) × ((x : ℤ) → Contains new x → Contains old x)

-- the lists that a vector of vectors has
abbrev pub lists_of : List (Vec ℤ Global) → List (List ℤ)
lists_of lists = map (λ r. r.items) lists

-- the list of this group
abbrev pub list_at : List (List ℤ) → ℕ → List ℤ
list_at lists group = slice_index_or lists group []

-- as many lists, each with the same numbers
pub record AreCandidatesOf (old new : List (List ℤ)) : Type 0 where
  pub long : length new ≡ length old
  pub same : (group : ℕ) → group < length old → HaveSameMembers (list_at old group) (list_at new group)

-- whether a range has a number
abbrev pub is_in : Range → ℤ → Bool
is_in range c = int_le range.low c && int_le c range.high

-- the numbers that a range has
abbrev pub in_range : Range → List ℤ → List ℤ
in_range range numbers = filter (is_in range) numbers

-- the range from the first to the last of some numbers; 0 to 0 where there are none
abbrev pub range_of : List ℤ → Range
range_of list = record { low = number_at list 0; high = number_at list (length list - 1) }

-- the first candidate above a power; that power itself where none is
abbrev pub next_above : List ℤ → ℤ → ℤ
next_above candidates at = unwrap_or (find (int_lt at) candidates) at

-- a peak's range goes from a candidate to a candidate, or is one power alone; its powers are from 0 to 10^13 W
pub record IsRangeOf (candidates : List ℤ) (range : Range) : Type 0 where
  pub floor : pos 0 ≤ℤ range.low
  pub order : range.low ≤ℤ range.high
  pub limit : range.high ≤ℤ pos (10 ^ 13)
  pub ends : (Contains candidates range.low × Contains candidates range.high) ⊎ (range.low ≡ range.high)

-- the ranges of all groups' peaks are such ranges
abbrev pub AreEnds : Space → List (List ℤ) → Type 0
AreEnds space candidates = (group : ℕ) → group < length candidates → IsRangeOf (list_at candidates group) (range_at space.peaks group)

-- the range from the least to the greatest candidate of a group has each of them
pub record RangeHas (list : List ℤ) : Type 0 where
  pub each : (x : ℤ) → Contains list x → IsIn (range_of list) x
  pub ends : IsRangeOf list (range_of list)

-- so it is for all candidates that are powers
abbrev pub RangesHaveCandidates : Type 0
RangesHaveCandidates = (list : List ℤ) → IsRising list → All IsWatt list → RangeHas list

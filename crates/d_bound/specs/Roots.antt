-- The powers that a group's highest demand may have, and the box that holds every feasible schedule. All of it is our own rule.
use Rattle.std.specs.Prelude.{ℕ, ℤ, pos, ◌≡◌, ◌⊎◌, ◌<◌, ◌==◌, true, List, Option, Some, None, length, map, slice_get, if◌then◌else◌}
use Rattle.std.specs.List.{range_with_len, All, Contains}
use Rattle.d_num.specs.Sums.{sum_of_first, greatest_of_first}
use Rattle.d_box.specs.declared.space.Range.{Range}
use Rattle.d_box.specs.declared.space.Space.{Space}
use Rattle.d_box.specs.Boxes.{nothing, range_at, Holds, IsBox}
use Rattle.d_box.specs.Candidates.{IsRising, AreEnds, list_at, range_of}
use Rattle.d_bill.specs.declared.arc.Arc.{Arc}
use Rattle.d_bill.specs.Inputs.{Inputs, period_in, is_in_group}
use Rattle.d_bill.specs.Flows.{arc_of, flow_at}
use Rattle.d_bill.specs.Totals.{values_of, import_to, peak_to}
use Rattle.d_bill.specs.Slopes.{tiered}

-- a group may draw this power: a mode that is permitted in one of its intervals does
pub record IsCandidate (i : Inputs) (group : ℕ) (power : ℤ) : Type 0 where
  pub interval : ℕ
  pub inside : interval < length i.net
  pub held : is_in_group i interval group ≡ true
  pub mode : ℕ
  pub arc : Arc
  pub there : arc_of i interval mode ≡ Some arc
  pub drawn : power ≡ arc.power

-- a list for each group, of the different powers that it may draw, rising
pub record AreCandidates (i : Inputs) (lists : List (List ℤ)) : Type 0 where
  pub long : length lists ≡ length i.peaks
  pub rising : All IsRising lists
  pub drawn : (group : ℕ) → group < length i.peaks → (power : ℤ) → Contains (list_at lists group) power → IsCandidate i group power
  pub each : (group : ℕ) → group < length i.peaks → (power : ℤ) → IsCandidate i group power → Contains (list_at lists group) power

-- the import of an arc; 0 where there is none
abbrev pub import_in : Option Arc → ℤ
import_in None = pos 0
import_in (Some arc) = arc.import

-- the greatest import that is permitted in an interval; 0 where none is
abbrev pub greatest_import : Inputs → ℕ → ℤ
greatest_import i t = greatest_of_first (length i.storage.modes) (λ m. import_in (arc_of i t m))

-- the most that a period may import
abbrev pub greatest_total : Inputs → ℕ → ℤ
greatest_total i period = sum_of_first (length i.net) (λ t. if period_in i t == period then greatest_import i t else pos 0)

-- from 0 to the most that a period may import; 0 to 0 where there is no such period
abbrev pub total_range : Inputs → Option ℕ → Range
total_range i None = nothing
total_range i (Some period) = record { low = pos 0; high = greatest_total i period }

-- the box of all schedules: each group's range goes from its least to its greatest candidate, and that of each tiered period from 0 to the
-- most that it may import
abbrev pub root_box : Inputs → List (List ℤ) → Space
root_box i lists = record {
  peaks = map (λ group. range_of (list_at lists group)) (range_with_len 0 37);
  totals = map (λ k. total_range i (slice_get (tiered i) k)) (range_with_len 0 36);
}

-- the highest demand of each group in a schedule
abbrev pub peaks_of : Inputs → List ℕ → List ℤ
peaks_of i s = values_of (length i.peaks) (peak_to i (flow_at i s) (length i.net))

-- the import of each tiered period in a schedule
abbrev pub tiered_totals : Inputs → List ℕ → List ℤ
tiered_totals i s = map (import_to i (flow_at i s) (length i.net)) (tiered i)

-- the box holds the schedule: each highest demand is in its range, and so is each import of a tiered period
abbrev pub HoldsSchedule : Inputs → Space → List ℕ → Type 0
HoldsSchedule i space s = Holds space (peaks_of i s) (tiered_totals i s)

-- a range from a candidate to a candidate, or 0 to 0
abbrev pub IsDrawnRange : List ℤ → Range → Type 0
IsDrawnRange list range = (Contains list range.low × Contains list range.high) ⊎ ((range.low ≡ pos 0) × (range.high ≡ pos 0))

-- a box whose ranges of peaks go from candidate to candidate, as those of the root and of all halves do; they are powers up to 10^13 W
pub record IsProblemBox (lists : List (List ℤ)) (space : Space) : Type 0 where
  pub box : IsBox space
  pub ends : AreEnds space lists
  pub drawn : (group : ℕ) → group < length lists → IsDrawnRange (list_at lists group) (range_at space.peaks group)

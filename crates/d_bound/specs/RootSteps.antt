-- Steps of gathering candidates; only private functions cite these words.
use Rattle.std.specs.Prelude.{◌≡◌, ℕ, ℤ, ◌<◌, ◌≤◌, ◌/◌, ◌%◌, true, List, Some, None, Option, length, map}
use Rattle.std.specs.List.{Contains, range_with_len}
use Rattle.d_box.specs.declared.space.Space.{Space}
use Rattle.d_box.specs.Boxes.{nothing, range_at}
use Rattle.d_box.specs.Candidates.{list_at, range_of}
use Rattle.d_bill.specs.declared.arc.Arc.{Arc}
use Rattle.d_bill.specs.Inputs.{Inputs, is_in_group}
use Rattle.d_bill.specs.Flows.{arc_of}
use Rattle.d_bound.specs.Roots.{IsCandidate}

-- the power of a mode in an interval that the group holds is drawn there
pub record IsDrawnAt (i : Inputs) (group t mode : ℕ) (power : ℤ) : Type 0 where
  pub held : is_in_group i t group ≡ true
  pub arc : Arc
  pub there : arc_of i t mode ≡ Some arc
  pub drawn : power ≡ arc.power

-- the power that is drawn there is found, or nothing is drawn
abbrev pub IsFoundDrawn : Inputs → ℕ → ℕ → ℕ → Option ℤ → Type 0
IsFoundDrawn i group t mode None = (power : ℤ) → IsDrawnAt i group t mode power → ⊥
IsFoundDrawn i group t mode (Some power) = IsDrawnAt i group t mode power

-- the powers that are drawn at the first n places of the list that goes interval by interval
pub record AreDrawnTo (i : Inputs) (group n : ℕ) (list : List ℤ) : Type 0 where
  pub drawn : (power : ℤ) → Contains list power → IsCandidate i group power
  pub each : (place : ℕ) (power : ℤ) → place < n → IsDrawnAt i group (place / length i.storage.modes) (place % length i.storage.modes) power → Contains list power

-- the powers that a group may draw, in any order
pub record AreDrawn (i : Inputs) (group : ℕ) (list : List ℤ) : Type 0 where
  pub drawn : (power : ℤ) → Contains list power → IsCandidate i group power
  pub each : (power : ℤ) → IsCandidate i group power → Contains list power

-- such lists for the first n groups
pub record AreDrawnLists (i : Inputs) (n : ℕ) (lists : List (List ℤ)) : Type 0 where
  pub long : length lists ≡ n
  pub each : (group : ℕ) → group < n → AreDrawn i group (list_at lists group)

-- the ranges of the first n groups' peaks go from their least to their greatest candidate; all others are 0 to 0
pub record IsRootTo (lists : List (List ℤ)) (n : ℕ) (space : Space) : Type 0 where
  pub long : length space.peaks ≡ 37
  pub peaks : (group : ℕ) → group < n → range_at space.peaks group ≡ range_of (list_at lists group)
  pub rest : (group : ℕ) → n ≤ group → group < 37 → range_at space.peaks group ≡ nothing
  pub totals : space.totals ≡ map (λ k. nothing) (range_with_len 0 36)

-- the box whose ranges of peaks go from each group's least to its greatest candidate, and whose totals are 0
abbrev pub IsRootBy : List (List ℤ) → Space → Type 0
IsRootBy lists space = space ≡ record {
  peaks = map (λ group. range_of (list_at lists group)) (range_with_len 0 37);
  totals = map (λ k. nothing) (range_with_len 0 36);
}

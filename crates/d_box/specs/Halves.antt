-- What holds of the halves of every box that is split. All of it is our own rule.
use Rattle.std.specs.Prelude.{ℕ, ℤ, ◌≡◌, ◌⊎◌, ◌<◌, ◌≤◌, ◌+◌, ◌*◌, max, List, [], ◌∷◌, Option, Some, length}
use Rattle.std.specs.List.{Contains}
use Rattle.d_tier.specs.declared.tier.Tier.{Tier}
use Rattle.d_tier.specs.declared.peak.Peak.{Peak as Group}
use Rattle.d_box.specs.declared.space.Range.{Range}
use Rattle.d_box.specs.declared.space.Space.{Space}
use Rattle.d_box.specs.declared.space.Split.{Split}
use Rattle.d_box.specs.declared.space.Split.TheVariants.{Total, Peak}
use Rattle.d_box.specs.Boxes.{range_at, number_at, Holds, left_half, right_half, IsTotalCut, IsPeakCut, IsPart, IsBox}
use Rattle.d_box.specs.Candidates.{list_at, in_range, next_above, AreEnds}
use Rattle.d_box.specs.Splits.{IsSplitOf}

-- where the left half of a split ends
abbrev pub below_of : Split → ℤ
below_of (Total index at) = at
below_of (Peak group at) = at

-- where the right half begins: a peak's at the next candidate
abbrev pub above_of : List (List ℤ) → Split → ℤ
above_of candidates (Total index at) = at
above_of candidates (Peak group at) = next_above (list_at candidates group) at

-- the left half of a box at a split
abbrev pub left_of : Space → Split → Space
left_of space split = left_half space split (below_of split)

-- the right half of a box at a split
abbrev pub right_of : List (List ℤ) → Space → Split → Space
right_of candidates space split = right_half space split (above_of candidates split)

-- the box may be split there: strictly inside a total's range, or between two neighbours among the candidates of a peak's
abbrev pub IsCut : List (List ℤ) → Space → Split → Type 0
IsCut candidates space (Total index at) = (index < length space.totals) × IsTotalCut (range_at space.totals index) at
IsCut candidates space (Peak group at) =
    (group < length space.peaks) × (group < length candidates)
    × IsPeakCut (list_at candidates group) (range_at space.peaks group) at (next_above (list_at candidates group) at)

-- a box may be split where its split is
abbrev pub SplitsAreCuts : Type 0
SplitsAreCuts =
    (space : Space) (energy : List (List Tier)) (groups : List Group) (candidates : List (List ℤ)) (split : Split)
    → IsBox space → length energy ≤ 36 → length groups ≤ 37 → length candidates ≡ length groups
    → IsSplitOf space energy groups candidates (Some split) → IsCut candidates space split

-- a box has one split
abbrev pub SplitsAreOne : Type 0
SplitsAreOne =
    (space : Space) (energy : List (List Tier)) (groups : List Group) (candidates : List (List ℤ)) (one other : Option Split)
    → IsSplitOf space energy groups candidates one → IsSplitOf space energy groups candidates other → one ≡ other

-- exactly one of both
abbrev pub OneOf : Type 0 → Type 0 → Type 0
OneOf A B = (A × (B → ⊥)) ⊎ (B × (A → ⊥))

-- what a box holds is held by exactly one half of a peak's split, where that peak is a candidate
abbrev pub IsPeakCover : Type 0
IsPeakCover =
    (space : Space) (group : ℕ) (at : ℤ) (candidates : List (List ℤ)) (peaks totals : List ℤ)
    → IsCut candidates space (Peak group at) → group < length peaks → Contains (list_at candidates group) (number_at peaks group)
    → Holds space peaks totals
    → OneOf (Holds (left_of space (Peak group at)) peaks totals) (Holds (right_of candidates space (Peak group at)) peaks totals)

-- what a box holds is held by a half of a total's split; at the end of a tier both may hold it
abbrev pub IsTotalCover : Type 0
IsTotalCover =
    (space : Space) (index : ℕ) (at : ℤ) (candidates : List (List ℤ)) (peaks totals : List ℤ) → IsCut candidates space (Total index at)
    → Holds space peaks totals
    → Holds (left_of space (Total index at)) peaks totals ⊎ Holds (right_of candidates space (Total index at)) peaks totals

-- what a half holds, its box holds
abbrev pub AreWithin : Type 0
AreWithin =
    (candidates : List (List ℤ)) (space : Space) (split : Split) → IsCut candidates space split
    → IsPart (left_of space split) space × IsPart (right_of candidates space split) space

-- the halves of a box are boxes
abbrev pub AreBoxes : Type 0
AreBoxes =
    (candidates : List (List ℤ)) (space : Space) (split : Split) → IsCut candidates space split → IsBox space
    → IsBox (left_of space split) × IsBox (right_of candidates space split)

-- where a box's ranges of peaks go from candidate to candidate, those of its halves do
abbrev pub AreHalvesEnds : Type 0
AreHalvesEnds =
    (candidates : List (List ℤ)) (space : Space) (split : Split) → IsCut candidates space split → AreEnds space candidates
    → AreEnds (left_of space split) candidates × AreEnds (right_of candidates space split) candidates

-- how many candidates of a group its range has; a group that has none counts as one that can't be split
abbrev pub weight : List ℤ → Range → ℕ
weight candidates range = max 1 (length (in_range range candidates))

-- in how many ways one candidate of each range can be chosen
unfoldable pub combinations : List (List ℤ) → List Range → ℕ
combinations [] ranges = 1
combinations (list ∷ lists) [] = 1
combinations (list ∷ lists) (range ∷ ranges) = weight list range * combinations lists ranges

-- both halves of a peak's split together have as many such choices as their box
abbrev pub AreShared : Type 0
AreShared =
    (candidates : List (List ℤ)) (space : Space) (group : ℕ) (at : ℤ) → IsCut candidates space (Peak group at)
    → combinations candidates space.peaks
    ≡ combinations candidates (left_of space (Peak group at)).peaks + combinations candidates (right_of candidates space (Peak group at)).peaks

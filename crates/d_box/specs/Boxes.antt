-- Boxes of peaks and totals, what they hold, and their halves. All of it is our own rule.
use Rattle.std.specs.Prelude.{ℕ, ℤ, pos, ◌≤ℤ◌, ◌<ℤ◌, ◌≡◌, ◌⊎◌, ◌<◌, List, length, slice_index_or, slice_set}
use Rattle.std.specs.List.{Contains}
use Rattle.d_box.specs.declared.space.Range.{Range}
use Rattle.d_box.specs.declared.space.Space.{Space}
use Rattle.d_box.specs.declared.space.Split.{Split}
use Rattle.d_box.specs.declared.space.Split.TheVariants.{Total, Peak}

-- the number is from one end of the range to the other
pub record IsIn (range : Range) (x : ℤ) : Type 0 where
  pub low : range.low ≤ℤ x
  pub high : x ≤ℤ range.high

-- the range of 0 alone
abbrev pub nothing : Range
nothing = record { low = pos 0; high = pos 0 }

-- the range at this place
abbrev pub range_at : List Range → ℕ → Range
range_at ranges k = slice_index_or ranges k nothing

-- the number at this place
abbrev pub number_at : List ℤ → ℕ → ℤ
number_at numbers k = slice_index_or numbers k (pos 0)

-- each number is in the range at its place
abbrev pub AreIn : List Range → List ℤ → Type 0
AreIn ranges numbers = (k : ℕ) → k < length numbers → IsIn (range_at ranges k) (number_at numbers k)

-- the box holds these peaks and totals
pub record Holds (space : Space) (peaks totals : List ℤ) : Type 0 where
  pub peaks_in : AreIn space.peaks peaks
  pub totals_in : AreIn space.totals totals

-- the ranges, of which that at this place ends at x
abbrev pub ended : List Range → ℕ → ℤ → List Range
ended ranges k x = slice_set ranges k (record { low = (range_at ranges k).low; high = x })

-- the ranges, of which that at this place begins at x
abbrev pub begun : List Range → ℕ → ℤ → List Range
begun ranges k x = slice_set ranges k (record { low = x; high = (range_at ranges k).high })

-- the left half: a total's range ends at the place of the split, a peak's at the greatest candidate up to there
abbrev pub left_half : Space → Split → ℤ → Space
left_half space (Total index at) below = record { peaks = space.peaks; totals = ended space.totals index at }
left_half space (Peak group at) below = record { peaks = ended space.peaks group below; totals = space.totals }

-- the right half: a total's range begins at the place of the split, a peak's at the least candidate above it
abbrev pub right_half : Space → Split → ℤ → Space
right_half space (Total index at) above = record { peaks = space.peaks; totals = begun space.totals index at }
right_half space (Peak group at) above = record { peaks = begun space.peaks group above; totals = space.totals }

-- the split names a range that is there
abbrev pub IsSplitThere : Split → Type 0
IsSplitThere (Total index at) = index < 36
IsSplitThere (Peak group at) = group < 37

-- a total's range is cut strictly inside
pub record IsTotalCut (range : Range) (at : ℤ) : Type 0 where
  pub low : range.low <ℤ at
  pub high : at <ℤ range.high

-- a peak's range is cut between two neighbours among its candidates
pub record IsPeakCut (candidates : List ℤ) (range : Range) (at above : ℤ) : Type 0 where
  pub low : range.low ≤ℤ at
  pub apart : at <ℤ above
  pub high : above ≤ℤ range.high
  pub there : Contains candidates at
  pub there_above : Contains candidates above
  pub next : (c : ℤ) → Contains candidates c → (c ≤ℤ at) ⊎ (above ≤ℤ c)

-- the range at each place lies within that of the other list
pub record AreRangesWithin (inner outer : List Range) : Type 0 where
  pub low : (k : ℕ) → (range_at outer k).low ≤ℤ (range_at inner k).low
  pub high : (k : ℕ) → (range_at inner k).high ≤ℤ (range_at outer k).high

-- what a box holds, the other holds too: each of its ranges lies within the other's
pub record IsPart (inner outer : Space) : Type 0 where
  pub peaks : AreRangesWithin inner.peaks outer.peaks
  pub totals : AreRangesWithin inner.totals outer.totals

-- no range is empty or begins below 0
abbrev pub AreRanges : List Range → Type 0
AreRanges ranges = (k : ℕ) → (pos 0 ≤ℤ (range_at ranges k).low) × ((range_at ranges k).low ≤ℤ (range_at ranges k).high)

-- 37 ranges of peaks and 36 of totals, none of them empty, all from 0 on
pub record IsBox (space : Space) : Type 0 where
  pub peaks_long : length space.peaks ≡ 37
  pub totals_long : length space.totals ≡ 36
  pub peaks : AreRanges space.peaks
  pub totals : AreRanges space.totals

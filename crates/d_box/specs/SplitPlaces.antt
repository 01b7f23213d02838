-- Where a box is split, found as a value. All of it is our own rule.
use Rattle.std.specs.Prelude.{ℕ, zero, suc, ℤ, pos, List, [], ◌∷◌, Option, Some, None, length, int_lt, ◌&&◌, if◌then◌else◌}
use Rattle.std.specs.Int.{int_min}
use Rattle.d_tier.specs.declared.tier.Tier.{Tier}
use Rattle.d_tier.specs.declared.peak.Peak.{Peak as Group}
use Rattle.d_box.specs.declared.space.Range.{Range}
use Rattle.d_box.specs.declared.space.Space.{Space}
use Rattle.d_box.specs.declared.space.Split.{Split}
use Rattle.d_box.specs.declared.space.Split.TheVariants.{Total, Peak}
use Rattle.d_box.specs.Boxes.{range_at, number_at}
use Rattle.d_box.specs.Candidates.{list_at, in_range}
use Rattle.d_box.specs.Splits.{gap_at, tiers_at, middle}

-- the lesser of an amount and of what was found
abbrev pub lesser_of : ℤ → Option ℤ → Option ℤ
lesser_of end None = Some end
lesser_of end (Some found) = Some (int_min end found)

-- a tier's end, where it lies strictly between both amounts and below what was found; else what was found
abbrev pub lower_end : ℤ → ℤ → Option ℤ → Option ℤ → Option ℤ
lower_end low high None found = found
lower_end low high (Some end) found = if int_lt low end && int_lt end high then lesser_of end found else found

-- the lowest end of a tier strictly between both amounts; none where there is none
unfoldable pub lowest_end : List Tier → ℤ → ℤ → Option ℤ
lowest_end [] low high = None
lowest_end (tier ∷ rest) low high = lower_end low high tier.end (lowest_end rest low high)

-- what was found, or else the split of total n at this place
abbrev pub or_total : Option Split → ℕ → Option ℤ → Option Split
or_total (Some split) n end = Some split
or_total None n None = None
or_total None n (Some at) = Some (Total n at)

-- the split of the first of the first n totals that has a tier's end strictly inside its range, at its lowest; none where no total has
unfoldable pub total_split : Space → List (List Tier) → ℕ → Option Split
total_split space energy zero = None
total_split space energy (suc n) =
    or_total (total_split space energy n) n (lowest_end (tiers_at energy n) (range_at space.totals n).low (range_at space.totals n).high)

-- group n where its difference is greater than that of the group that was found, and above 0; else what was found
abbrev pub wider_of : Space → List Group → ℕ → Option ℕ → Option ℕ
wider_of space groups n None = if int_lt (pos 0) (gap_at space groups n) then Some n else None
wider_of space groups n (Some group) = if int_lt (gap_at space groups group) (gap_at space groups n) then Some n else Some group

-- the first of the first n groups with the greatest difference above 0; none where no difference is
unfoldable pub widest_of : Space → List Group → ℕ → Option ℕ
widest_of space groups zero = None
widest_of space groups (suc n) = wider_of space groups n (widest_of space groups n)

-- the candidate in the middle of those that a range has
abbrev pub middle_of : List ℤ → Range → ℤ
middle_of candidates range = number_at (in_range range candidates) (middle (length (in_range range candidates)))

-- the split of a group's peak in the middle of its range; none where there is no group
abbrev pub peak_split : Space → List (List ℤ) → Option ℕ → Option Split
peak_split space candidates None = None
peak_split space candidates (Some group) = Some (Peak group (middle_of (list_at candidates group) (range_at space.peaks group)))

-- the split of a total, or else that of a peak
abbrev pub split_or : Option Split → Option Split → Option Split
split_or (Some split) other = Some split
split_or None other = other

-- where a box is split; none for a point
abbrev pub split_place : Space → List (List Tier) → List Group → List (List ℤ) → Option Split
split_place space energy groups candidates =
    split_or (total_split space energy (length energy)) (peak_split space candidates (widest_of space groups (length groups)))

-- Where a box is split: at the end of a tier strictly inside a total's range, or else at a candidate of a peak's. All of it is our own rule.
use Rattle.std.specs.Prelude.{ℕ, ℤ, pos, ◌≤ℤ◌, ◌<ℤ◌, ◌-ℤ◌, ◌≡◌, ◌<◌, ◌-◌, ◌*◌, ◌^◌, ◌/◌, List, [], Option, Some, None, length, slice_index_or}
use Rattle.std.specs.List.{All}
use Rattle.d_box.specs.Boxes.{range_at, number_at, IsPeakCut}
use Rattle.d_box.specs.Candidates.{list_at, in_range, next_above}
use Rattle.d_box.specs.declared.space.Range.{Range}
use Rattle.d_box.specs.declared.space.Space.{Space}
use Rattle.d_box.specs.declared.space.Split.{Split}
use Rattle.d_box.specs.declared.space.Split.TheVariants.{Total, Peak}
use Rattle.d_num.specs.Amount.{IsUpTo}
use Rattle.d_tier.specs.Charges.{peak_charge}
use Rattle.d_tier.specs.TierEnds.{HasNoInner, IsLowestInner}
use Rattle.d_tier.specs.declared.tier.Tier.{Tier}
use Rattle.d_tier.specs.declared.peak.Peak.{Peak as Group}

-- a group's prices are from 0 to 3000 USD per kW (our own limit)
abbrev pub HasDemandPrices : Group → Type 0
HasDemandPrices peak = All (λ tier. IsUpTo (3 * 10 ^ 21) tier.price) peak.tiers

-- how much more the high end costs than the low end
abbrev pub peak_gap : Group → Range → ℤ
peak_gap peak range = peak_charge peak range.high -ℤ peak_charge peak range.low

-- the tiers of this total
abbrev pub tiers_at : List (List Tier) → ℕ → List Tier
tiers_at energy k = slice_index_or energy k []

-- none of the first n totals has a tier end strictly inside its range
abbrev pub HasNoTotal : Space → List (List Tier) → ℕ → Type 0
HasNoTotal space energy n =
    (k : ℕ) → k < n
    → HasNoInner (tiers_at energy k) (range_at space.totals k).low (range_at space.totals k).high (length (tiers_at energy k))

-- this is the first total with such an end, and its lowest
pub record IsFirstInner (space : Space) (energy : List (List Tier)) (n index : ℕ) (at : ℤ) : Type 0 where
  pub inside : index < n
  pub lowest :
      IsLowestInner (tiers_at energy index) (range_at space.totals index).low (range_at space.totals index).high
      (length (tiers_at energy index)) at
  pub first : HasNoTotal space energy index

-- a group that charges nothing, which stands for one that isn't there
abbrev pub no_peak : Group
no_peak = record { tiers = []; floor = pos 0 }

-- the difference of this group's charge between both ends of its range
abbrev pub gap_at : Space → List Group → ℕ → ℤ
gap_at space groups group = peak_gap (slice_index_or groups group no_peak) (range_at space.peaks group)

-- no difference of the first n groups is above 0
abbrev pub HasNoGap : Space → List Group → ℕ → Type 0
HasNoGap space groups n = (k : ℕ) → k < n → gap_at space groups k ≤ℤ pos 0

-- the first of the first n groups with the greatest difference, which is above 0
pub record IsWidestGroup (space : Space) (groups : List Group) (n group : ℕ) : Type 0 where
  pub inside : group < n
  pub some : pos 0 <ℤ gap_at space groups group
  pub greatest : (k : ℕ) → k < n → gap_at space groups k ≤ℤ gap_at space groups group
  pub first : (k : ℕ) → k < group → gap_at space groups k <ℤ gap_at space groups group

-- the place in the middle of so many, the earlier of two
abbrev pub middle : ℕ → ℕ
middle count = (count - 1) / 2

-- a peak's range is split at the candidate in the middle of those that it has
pub record IsMiddleCut (candidates : List ℤ) (range : Range) (at : ℤ) : Type 0 where
  pub middle : at ≡ number_at (in_range range candidates) (middle (length (in_range range candidates)))
  pub cut : IsPeakCut candidates range at (next_above candidates at)

-- a peak is split: no end of a tier lies strictly inside a total's range, and this group's charge differs most between the ends of its range
pub record IsPeakSplit (space : Space) (energy : List (List Tier)) (groups : List Group) (candidates : List (List ℤ)) (group : ℕ) (at : ℤ)
    : Type 0 where
  pub no_total : HasNoTotal space energy (length energy)
  pub widest : IsWidestGroup space groups (length groups) group
  pub cut : IsMiddleCut (list_at candidates group) (range_at space.peaks group) at

-- nowhere to split: no end strictly inside a total's range, and no difference of demand charges
pub record IsPoint (space : Space) (energy : List (List Tier)) (groups : List Group) : Type 0 where
  pub no_total : HasNoTotal space energy (length energy)
  pub no_gap : HasNoGap space groups (length groups)

-- None is the split of a point alone; a total is split at the first end of a tier inside, and a peak only where no total is
abbrev pub IsSplitOf : Space → List (List Tier) → List Group → List (List ℤ) → Option Split → Type 0
IsSplitOf space energy groups candidates None = IsPoint space energy groups
IsSplitOf space energy groups candidates (Some (Total index at)) = IsFirstInner space energy (length energy) index at
IsSplitOf space energy groups candidates (Some (Peak group at)) = IsPeakSplit space energy groups candidates group at

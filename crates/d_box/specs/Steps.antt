-- What loops have found so far; only private functions cite these words.
use Rattle.std.specs.Prelude.{ℕ, ℤ, pos, ◌≡◌, ◌<◌, List, Option, Some, None}
use Rattle.d_box.specs.Boxes.{range_at}
use Rattle.d_box.specs.Candidates.{IsRising, list_at, AreCandidatesOf}
use Rattle.d_box.specs.Splits.{HasNoTotal, IsFirstInner, gap_at, HasNoGap, IsWidestGroup}
use Rattle.d_box.specs.declared.space.Space.{Space}
use Rattle.d_box.specs.declared.space.Split.{Split}
use Rattle.d_box.specs.declared.space.Split.TheVariants.{Total, Peak}
use Rattle.d_num.specs.Amount.{IsWatt}
use Rattle.d_tier.specs.declared.tier.Tier.{Tier}
use Rattle.d_tier.specs.declared.peak.Peak.{Peak as Group}

-- the first of the first n totals with such an end is found, or there is none
abbrev pub IsFirstTotal : Space → List (List Tier) → ℕ → Option Split → Type 0
IsFirstTotal space energy n None = HasNoTotal space energy n
IsFirstTotal space energy n (Some (Total index at)) = IsFirstInner space energy n index at
IsFirstTotal space energy n (Some (Peak group at)) = ⊥

-- the widest of the first n groups is found, or there is none
abbrev pub IsWidest : Space → List Group → ℕ → Option ℕ → Type 0
IsWidest space groups n None = HasNoGap space groups n
IsWidest space groups n (Some group) = IsWidestGroup space groups n group

-- the ranges of the first n groups' peaks are ranges of powers
abbrev pub ArePowers : Space → ℕ → Type 0
ArePowers space n = (group : ℕ) → group < n → IsWatt (range_at space.peaks group).low × IsWatt (range_at space.peaks group).high

-- what the loop over groups has found
abbrev pub IsWidestTo : Space → List Group → ℕ → Option ℕ → ℤ → Type 0
IsWidestTo space groups n None greatest = (greatest ≡ pos 0) × HasNoGap space groups n
IsWidestTo space groups n (Some group) greatest = (greatest ≡ gap_at space groups group) × IsWidestGroup space groups n group

-- what the loop over lists has done
pub record AreCandidatesTo (old new : List (List ℤ)) (n : ℕ) : Type 0 where
  pub lists : AreCandidatesOf old new
  pub rise : (group : ℕ) → group < n → IsRising (list_at new group)

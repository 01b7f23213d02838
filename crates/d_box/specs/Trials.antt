-- Slopes, at which the energy of tiered periods is counted, and which slopes are tried. All of it is our own rule.
use Rattle.std.specs.Prelude.{ℕ, ℤ, pos, ◌+ℤ◌, ◌-ℤ◌, ◌*ℤ◌, ◌≡◌, ◌<◌, ◌+◌, ◌-◌, ◌*◌, ◌^◌, ◌/◌, ◌%◌, ◌==◌, nat_lt, int_div, if◌then◌else◌, List, [], ◌∷◌, Option, Some, None, slice_index_or}
use Rattle.std.specs.Int.{int_max, int_min}
use Rattle.std.specs.List.{All}
use Rattle.d_num.specs.Amount.{IsWithin}
use Rattle.d_tier.specs.declared.tier.Tier.{Tier}
use Rattle.d_tier.specs.Tables.{prices_of, price_at}
use Rattle.d_tier.specs.TierEnds.{holding}
use Rattle.d_box.specs.declared.space.Space.{Space}
use Rattle.d_box.specs.declared.slopes.Slopes.{Slopes}
use Rattle.d_box.specs.Boxes.{range_at}
use Rattle.d_box.specs.Splits.{tiers_at}

-- a period's prices are at most 3000 USD per kWh in size (our own limit)
abbrev pub HasEnergyPrices : List Tier → Type 0
HasEnergyPrices tiers = All (λ tier. IsWithin (3 * 10 ^ 21) tier.price) tiers

-- the least of some numbers; 0 where there are none
unfoldable pub least_of : List ℤ → ℤ
least_of [] = pos 0
least_of (x ∷ []) = x
least_of (x ∷ y ∷ rest) = int_min x (least_of (y ∷ rest))

-- the greatest of some numbers; 0 where there are none
unfoldable pub greatest_of : List ℤ → ℤ
greatest_of [] = pos 0
greatest_of (x ∷ []) = x
greatest_of (x ∷ y ∷ rest) = int_max x (greatest_of (y ∷ rest))

-- the slope that the low end of a period's range gives: the price of the tier that holds it; 0 where there is no such period
abbrev pub low_slope : Space → List (List Tier) → ℕ → ℤ
low_slope space energy k = price_at (tiers_at energy k) (holding (tiers_at energy k) (range_at space.totals k).low)

-- the slope of a period
abbrev pub rate_at : Slopes → ℕ → ℤ
rate_at slopes k = slice_index_or slopes.rates k (pos 0)

-- the slopes that are tried first: the parent's; at the root, which has none, those of the low ends
abbrev pub first_slope : Space → List (List Tier) → Option Slopes → ℕ → ℤ
first_slope space energy None k = low_slope space energy k
first_slope space energy (Some parent) k = rate_at parent k

-- how far a period's prices are apart
abbrev pub spread_of : List Tier → ℤ
spread_of tiers = greatest_of (prices_of tiers) -ℤ least_of (prices_of tiers)

-- so many quarters of that, rounded down
abbrev pub quarters : ℤ → ℕ → ℤ
quarters spread count = int_div (spread *ℤ pos count) (pos 4)

-- a slope raised by one to four quarters (step 0 to 3), or lowered by as many (step 4 to 7)
abbrev pub shifted : ℤ → ℤ → ℕ → ℤ
shifted spread slope step = if nat_lt step 4 then slope +ℤ quarters spread (step + 1) else slope -ℤ quarters spread (step - 3)

-- a slope is kept from the spread below the lowest price to the spread above the highest
abbrev pub kept : ℤ → ℤ → ℤ → ℤ
kept lowest highest slope = int_max (lowest -ℤ (highest -ℤ lowest)) (int_min slope (highest +ℤ (highest -ℤ lowest)))

-- a period's slope after a step, in its bounds
abbrev pub moved : List Tier → ℤ → ℕ → ℤ
moved tiers slope step = kept (least_of (prices_of tiers)) (greatest_of (prices_of tiers)) (shifted (spread_of tiers) slope step)

-- the slope of period k in a trial that moves a slope; number counts these trials, of which each period in turn has eight
abbrev pub moved_slope : Space → List (List Tier) → Option Slopes → ℕ → ℕ → ℤ
moved_slope space energy parent number k =
    if number / 8 == k then moved (tiers_at energy k) (first_slope space energy parent k) (number % 8) else first_slope space energy parent k

-- the slope of period k in trial `number`: number 0 is the parent's slopes, number 1 those of the low ends; behind them slopes are moved
abbrev pub trial_slope : Space → List (List Tier) → Option Slopes → ℕ → ℕ → ℤ
trial_slope space energy parent number k =
    if number == 1 then low_slope space energy k
    else (if nat_lt number 2 then first_slope space energy parent k else moved_slope space energy parent (number - 2) k)

-- these are the slopes of the trial
abbrev pub IsTrial : Space → List (List Tier) → Option Slopes → ℕ → Slopes → Type 0
IsTrial space energy parent number slopes = (k : ℕ) → k < 36 → rate_at slopes k ≡ trial_slope space energy parent number k

-- these are the slopes that are tried first, or those of the low ends
abbrev pub AreFirst : Space → List (List Tier) → Option Slopes → Slopes → Type 0
AreFirst space energy parent slopes = (k : ℕ) → k < 36 → rate_at slopes k ≡ first_slope space energy parent k

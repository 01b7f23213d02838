-- Where no price is below 0 a higher demand is never charged less.
use Rattle.std.specs.Prelude.{ℤ, pos, ◌≤ℤ◌, All}
use Rattle.d_tier.specs.declared.peak.Peak.{Peak}
use Rattle.d_tier.specs.Tables.{IsTierTable}
use Rattle.d_tier.specs.Charges.{peak_charge}

-- of two demands the higher is charged as much as the lower or more
abbrev pub ChargesRise : Type 0
ChargesRise = (peak : Peak) (x y : ℤ) → IsTierTable peak.tiers → All (λ tier. pos 0 ≤ℤ tier.price) peak.tiers → x ≤ℤ y → peak_charge peak x ≤ℤ peak_charge peak y

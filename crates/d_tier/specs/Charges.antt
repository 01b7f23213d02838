-- What an amount is charged by marginal tiers: each tier's price for the part of the amount that lies in the tier.
use Rattle.std.specs.Prelude.{ℤ, pos, ◌+ℤ◌, ◌-ℤ◌, ◌*ℤ◌, Bool, not, List, [], ◌∷◌, Option, Some, None, unwrap_or}
use Rattle.std.specs.List.{list_any}
use Rattle.std.specs.Ordering.{int_eq}
use Rattle.std.specs.Int.{int_max, int_min}
use Rattle.d_tier.specs.declared.peak.Peak.{Peak}
use Rattle.d_tier.specs.declared.tier.Tier.{Tier}

-- where the part of an amount that lies below a tier's end ends: at the tier's end or at the amount, whichever comes first
abbrev pub part_end : Option ℤ → ℤ → ℤ
part_end None x = x
part_end (Some end) x = int_min x end

-- the part of an amount that lies in the tier from `begin` to its end
abbrev pub part_in : ℤ → Option ℤ → ℤ → ℤ
part_in begin end x = part_end end x -ℤ int_min x begin

-- the charge of the part of an amount that lies in tiers, the first of which begins at `begin`
abbrev pub charge_from : ℤ → List Tier → ℤ → ℤ
charge_from begin [] x = pos 0
charge_from begin (tier ∷ rest) x = (tier.price *ℤ part_in begin tier.end x) +ℤ charge_from (unwrap_or tier.end begin) rest x

-- the charge of an amount
abbrev pub tier_charge : List Tier → ℤ → ℤ
tier_charge tiers x = charge_from (pos 0) tiers x

-- the charge of a highest demand: that of the demand or of the floor, whichever is greater
abbrev pub peak_charge : Peak → ℤ → ℤ
peak_charge peak power = tier_charge peak.tiers (int_max power peak.floor)

-- some tier has a price other than 0
abbrev pub has_price : List Tier → Bool
has_price tiers = list_any (λ tier. not (int_eq tier.price (pos 0))) tiers

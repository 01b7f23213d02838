-- What a tariff charges a month whatever is used, the least that its bill may be, and the floor of its flat demand.
use Rattle.std.specs.Prelude.{ℕ, ℤ, pos, Bool, false, ◌-◌, ◌^◌, ◌*ℤ◌, List, Option, None, Some, option_map, slice_index}
use Rattle.std.specs.Int.{int_div_euclid}
use Rattle.jiff_core.specs.Calendar.{days_in_month}
use Rattle.d_tier.specs.declared.tier.Tier.{Tier}
use Rattle.d_tier.specs.Charges.{has_price}
use Rattle.d_tariff.specs.declared.charge.Charge.{Charge}
use Rattle.d_tariff.specs.declared.charge.ChargeUnit.{ChargeUnit}
use Rattle.d_tariff.specs.declared.charge.ChargeUnit.TheVariants.{Day, Month, Year}
use Rattle.d_tariff.specs.Terms.{Terms}

-- what an amount comes to in a month where it is charged so often: each day, once, or a twelfth, which is rounded down to a whole unit of
-- money, also below 0
abbrev pub month_amount : ChargeUnit → ℤ → ℤ → ℕ → ℤ
month_amount Day amount year number = amount *ℤ pos (days_in_month year number)
month_amount Month amount year number = amount
month_amount Year amount year number = int_div_euclid amount (pos 12)

-- the same of a charge
abbrev pub month_charge : Charge → ℤ → ℕ → ℤ
month_charge charge year number = month_amount charge.unit charge.amount year number

-- what is charged for a month whatever is used
abbrev pub fixed_of : Terms → ℤ → ℕ → ℤ
fixed_of terms year number = month_charge terms.fixed year number

-- the least that a month's bill may be; None where there is no minimum
abbrev pub minimum_of : Terms → ℤ → ℕ → Option ℤ
minimum_of terms year number = option_map (λ charge. month_charge charge year number) terms.minimum

-- the flat demand, in W, that a month, from 1, is billed for at least: its fraction, in units of 10^-20, of an earlier peak, rounded down to
-- whole W
abbrev pub floor_of : Terms → ℕ → ℤ → ℤ
floor_of terms month prior = int_div_euclid (pos (slice_index terms.ratchet (month - 1)) *ℤ prior) (pos (10 ^ 20))

-- there are tiers, and some of them has a price other than 0
abbrev pub is_charged : Option (List Tier) → Bool
is_charged None = false
is_charged (Some tiers) = has_price tiers

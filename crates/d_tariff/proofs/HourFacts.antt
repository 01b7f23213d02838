-- The periods of a valid tariff's hours.
use Rattle.std.proofs.Common.{ℕ, ◌<◌, ◌≤◌, ℤ, true, false, IsSome, cond}
use Rattle.d_cal.specs.Calendar.{is_weekend}
use Rattle.d_cal.specs.Schedules.{period_of, entry_at}
use Rattle.d_tariff.specs.Terms.{Terms, IsTariff, period_at}

-- each hour of each day has an energy period that is there
pub hour_there : {terms : Terms} → IsTariff terms → (year : ℤ) (month day hour : ℕ) → 1 ≤ month → month ≤ 12 → hour < 24
    → IsSome (period_at terms.energy (period_of terms.energy_weekday terms.energy_weekend year month day hour))
hour_there {terms} valid year month day hour first last within =
    elim (is_weekend year month day) as (λ b. IsSome (period_at terms.energy (cond b (entry_at terms.energy_weekend month hour) (entry_at terms.energy_weekday month hour)))) [
      | true ↦ valid.weekend month hour first last within
      | false ↦ valid.weekday month hour first last within
    ]

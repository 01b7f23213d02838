-- Which day an interval is of.
use Rattle.std.proofs.Common.{◌≡◌, ◌⊎◌, inl, inr, ℕ, ◌+◌, ◌-◌, ◌*◌, ◌/◌, ◌<◌, ◌≤◌, length, min, sym, ◌∙◌, arith, subst}
use Rattle.std.proofs.Math.Path.{ap₂}
use Rattle.std.proofs.Math.Nat.{div-mul-le_self, le-div_iff_mul-le, mul-le-mul_right}
use Rattle.d_rows.specs.Days.{DayRows}

-- an interval stands in the day that comes by division, the month's end in the last
day_of : (t per_day days day : ℕ) → 0 < per_day → 0 < days → t ≤ days * per_day → day ≡ min (t / per_day) (days - 1) → (day * per_day ≤ t) × (t ≤ (day + 1) * per_day)
day_of t per_day days day some some_day inside is = by_order (order (t / per_day) days some_day)
  where
    order : (q days : ℕ) → 0 < days → ((q ≤ days - 1) × (min q (days - 1) ≡ q)) ⊎ ((days ≤ q) × (min q (days - 1) ≡ days - 1))
    order q days some_day = grind arith

    above : t < (t / per_day + 1) * per_day
    above = by_not (below? t ((t / per_day + 1) * per_day))
      where
        below? : (x y : ℕ) → (x < y) ⊎ (y ≤ x)
        below? x y = grind arith

        by_not : (t < (t / per_day + 1) * per_day) ⊎ ((t / per_day + 1) * per_day ≤ t) → t < (t / per_day + 1) * per_day
        by_not (inl lt) = lt
        by_not (inr ge) = let more = (le-div_iff_mul-le {k = per_day} {x = t / per_day + 1} {y = t} some).1 ge in absurd (omega arith)

    by_order : ((t / per_day ≤ days - 1) × (min (t / per_day) (days - 1) ≡ t / per_day)) ⊎ ((days ≤ t / per_day) × (min (t / per_day) (days - 1) ≡ days - 1)) → (day * per_day ≤ t) × (t ≤ (day + 1) * per_day)
    by_order (inl h) =
        let at : day ≡ t / per_day = is ∙ h.1 in
        rw at (div-mul-le_self t per_day, (let lt = above in omega arith))
    by_order (inr h) =
        let at : day ≡ days - 1 = is ∙ h.1 in
        let full : days - 1 + 1 ≡ days = omega arith in
        let low : days * per_day ≤ t / per_day * per_day = mul-le-mul_right per_day h.0 in
        let less : (days - 1) * per_day ≤ days * per_day = mul-le-mul_right per_day (omega arith) in
        let under = div-mul-le_self t per_day in
        rw at (omega (arith, low, less, under), subst (λ (n : ℕ). t ≤ n * per_day) (sym full) inside)

-- the same by the rows at hand
pub day_at : (r : DayRows) (t per_day days day intervals : ℕ) → length r.window + 1 ≡ per_day → length r.kept ≡ days + 1 → 1 < length r.kept → (length r.kept - 1) * (length r.window + 1) ≡ intervals → t ≤ intervals
    → day ≡ min (t / per_day) (days - 1) → (day * (length r.window + 1) ≤ t) × (t ≤ (day + 1) * (length r.window + 1))
day_at r t per_day days day intervals per_is days_is some all inside is =
    let count : length r.kept - 1 ≡ days = omega arith in
    let whole : days * per_day ≡ intervals = ap₂ ◌*◌ (sym count) (sym per_is) ∙ all in
    let found = day_of t per_day days day (omega arith) (omega arith) (omega (arith, whole)) is in
    subst (λ (n : ℕ). (day * n ≤ t) × (t ≤ (day + 1) * n)) (sym per_is) found

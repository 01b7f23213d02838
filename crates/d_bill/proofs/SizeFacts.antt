-- How large the parts of a tally are.
use Rattle.std.proofs.Common.{◌≡◌, ◌⊎◌, inl, inr, ℕ, ℤ, pos, negsuc, ◌*◌, ◌^◌, ◌/◌, ◌<◌, ◌≤◌, ◌==◌, ◌+ℤ◌, ◌*ℤ◌, ◌≤ℤ◌, [], ◌∷◌, length, Option, Some, None, arith, refl, ap, ◌∙◌, if◌then◌else◌, slice_index_or, Bool, true, false}
use Rattle.std.specs.Option.{ForSome}
use Rattle.std.specs.Prelude.{int_div}
use Rattle.std.proofs.lemmas.Int.{ints, clamps}
use Rattle.std.proofs.lemmas.Bool.Decides.{nat_tests}
use Rattle.d_num.specs.Amount.{IsWithin, IsUpTo, IsReadingLength}
use Rattle.d_num.proofs.Products.{product_within}
use Rattle.d_num.proofs.Sums.{sum_up_to, sum_within, greatest_up_to}
use Rattle.d_tariff.specs.declared.period.Period.{Period}
use Rattle.d_tariff.specs.Terms.{period_at}
use Rattle.d_bill.specs.Inputs.{Inputs, IsInRange, HasPrices, period_in, sell_of, sell_at, is_in_group}
use Rattle.d_bill.specs.Flows.{import_of, export_of, power_of}
use Rattle.d_bill.specs.Totals.{Tallied, import_to, credit_to, peak_to, IsTalliedTo, IsTallied}
use Rattle.d_bill.proofs.Values.{values_read}
use Rattle.d_bill.proofs.RangeFacts.{period_below}

-- a sell rate
pub sell_within : (i : Inputs) (p : ℕ) → IsInRange i → p < 36 → IsWithin (3 * 10 ^ 21) (sell_of i.energy p)
sell_within i p fine below = by_entry (period_at i.energy p) (fine.energy p None (omega (arith, fine.entries)))
  where
    by_entry : (o : Option Period) → ForSome o HasPrices → IsWithin (3 * 10 ^ 21) (sell_of (o ∷ []) 0)
    by_entry None h = (omega (arith, ints), omega (arith, ints))
    by_entry (Some period) h = (h period refl).sell

-- the import of a flow
pub import_small : (flow : ℤ) → IsWithin (2 * 10 ^ 9) flow → IsUpTo (2 * 10 ^ 9) (import_of flow)
import_small flow h = (omega (arith, ints, clamps), omega (arith, ints, clamps))

-- the export
pub export_small : (flow : ℤ) → IsWithin (2 * 10 ^ 9) flow → IsUpTo (2 * 10 ^ 9) (export_of flow)
export_small flow h = (omega (arith, ints, clamps), omega (arith, ints, clamps))

-- what counts in some intervals alone
in_some : (m : ℕ) (b : Bool) (x : ℤ) → IsUpTo m x → IsUpTo m (if b then x else pos 0)
in_some m true x h = h
in_some m false x h = (omega (arith, ints), omega (arith, ints))

-- the import of a period
pub total_small : (i : Inputs) (flow : ℕ → ℤ) (t p : ℕ) → ((k : ℕ) → k < t → IsWithin (2 * 10 ^ 9) (flow k)) → IsUpTo (2 * 10 ^ 9 * t) (import_to i flow t p)
total_small i flow t p small =
    sum_up_to (2 * 10 ^ 9) t (λ k. if period_in i k == p then import_of (flow k) else pos 0) (λ k below. in_some (2 * 10 ^ 9) (period_in i k == p) (import_of (flow k)) (import_small (flow k) (small k below)))

-- the worth of an export
pub worth_small : (i : Inputs) (p : ℕ) (export : ℤ) → IsInRange i → p < 36 → IsUpTo (2 * 10 ^ 9) export → IsWithin (6 * 10 ^ 30) (sell_of i.energy p *ℤ export)
worth_small i p export fine below small = product_within (3 * 10 ^ 21) (2 * 10 ^ 9) (sell_of i.energy p) export (sell_within i p fine below) (omega (arith, ints), omega (arith, ints))

-- the credit
pub credit_small : (i : Inputs) (flow : ℕ → ℤ) (t : ℕ) → IsInRange i → t ≤ length i.net → ((k : ℕ) → k < t → IsWithin (2 * 10 ^ 9) (flow k)) → IsWithin (6 * 10 ^ 30 * t) (credit_to i flow t)
credit_small i flow t fine within small =
    sum_within (6 * 10 ^ 30) t (λ k. sell_at i k *ℤ export_of (flow k))
    (λ k below. worth_small i (period_in i k) (export_of (flow k)) fine (period_below i fine k (omega arith)) (export_small (flow k) (small k below)))

-- with one more import a total stays in range
pub total_fits : (i : Inputs) (t p : ℕ) (x : Tallied) (import : ℤ) → IsInRange i → t < length i.net → p < 36 → IsTalliedTo i t x → IsUpTo (2 * 10 ^ 9) import
    → IsWithin (2 * 10 ^ 13) (slice_index_or x.totals p (pos 0) +ℤ import)
total_fits i t p x import fine inside below tallied small =
    let total = total_small i tallied.flow t p tallied.small in
    let is : slice_index_or x.totals p (pos 0) ≡ import_to i tallied.flow t p = ap (λ (y : Tallied). slice_index_or y.totals p (pos 0)) tallied.is ∙ values_read 36 (import_to i tallied.flow t) p (pos 0) below in
    fits t (length i.net) (slice_index_or x.totals p (pos 0)) (import_to i tallied.flow t p) import is total small inside fine.few_intervals
  where
    fits : (t n : ℕ) (read total import : ℤ) → read ≡ total → IsUpTo (2 * 10 ^ 9 * t) total → IsUpTo (2 * 10 ^ 9) import → t < n → n ≤ 8928 → IsWithin (2 * 10 ^ 13) (read +ℤ import)
    fits t n read total import e a b c d = (omega (arith, ints, a.0, b.0), omega (arith, ints, a.1, b.1))

-- and with one more worth the credit does
pub credit_fits : (i : Inputs) (t p : ℕ) (x : Tallied) (sell export : ℤ) → IsInRange i → t < length i.net → p < 36 → IsTalliedTo i t x → sell ≡ sell_of i.energy p → IsUpTo (2 * 10 ^ 9) export
    → IsWithin (10 ^ 37) (x.credit +ℤ sell *ℤ export)
credit_fits i t p x sell export fine inside below tallied pays small =
    let credit = credit_small i tallied.flow t fine (omega arith) tallied.small in
    let is : x.credit ≡ credit_to i tallied.flow t = ap (λ (y : Tallied). y.credit) tallied.is in
    rw pays (fits t (length i.net) x.credit (credit_to i tallied.flow t) (sell_of i.energy p *ℤ export) is credit (worth_small i p export fine below small) inside fine.few_intervals)
  where
    fits : (t n : ℕ) (read credit worth : ℤ) → read ≡ credit → IsWithin (6 * 10 ^ 30 * t) credit → IsWithin (6 * 10 ^ 30) worth → t < n → n ≤ 8928 → IsWithin (10 ^ 37) (read +ℤ worth)
    fits t n read credit worth e a b c d = (omega (arith, ints, a.0, b.0), omega (arith, ints, a.1, b.1))

-- a month's import of a period
pub month_total : (i : Inputs) (p : ℕ) (x : Tallied) → IsInRange i → p < 36 → IsTallied i x → IsUpTo (2 * 10 ^ 13) (slice_index_or x.totals p (pos 0))
month_total i p x fine below tallied =
    let total = total_small i tallied.flow (length i.net) p tallied.small in
    let is : slice_index_or x.totals p (pos 0) ≡ import_to i tallied.flow (length i.net) p = ap (λ (y : Tallied). slice_index_or y.totals p (pos 0)) tallied.is ∙ values_read 36 (import_to i tallied.flow (length i.net)) p (pos 0) below in
    fits (length i.net) (slice_index_or x.totals p (pos 0)) (import_to i tallied.flow (length i.net) p) is total fine.few_intervals
  where
    fits : (n : ℕ) (read total : ℤ) → read ≡ total → IsUpTo (2 * 10 ^ 9 * n) total → n ≤ 8928 → IsUpTo (2 * 10 ^ 13) read
    fits n read total e a d = (omega (arith, ints, a.0), omega (arith, ints, a.1))

-- its credit
pub month_credit : (i : Inputs) (x : Tallied) → IsInRange i → IsTallied i x → IsWithin (6 * 10 ^ 34) x.credit
month_credit i x fine tallied =
    let credit = credit_small i tallied.flow (length i.net) fine (omega arith) tallied.small in
    let is : x.credit ≡ credit_to i tallied.flow (length i.net) = ap (λ (y : Tallied). y.credit) tallied.is in
    fits (length i.net) x.credit (credit_to i tallied.flow (length i.net)) is credit fine.few_intervals
  where
    fits : (n : ℕ) (read credit : ℤ) → read ≡ credit → IsWithin (6 * 10 ^ 30 * n) credit → n ≤ 8928 → IsWithin (6 * 10 ^ 34) read
    fits n read credit e a d = (omega (arith, ints, a.0), omega (arith, ints, a.1))

-- the power of an import, by the three lengths of an interval
pub power_small : (minutes : ℕ) (flow : ℤ) → IsReadingLength minutes → IsWithin (2 * 10 ^ 9) flow → power_of minutes flow ≤ℤ pos (8 * 10 ^ 9)
power_small minutes flow pace small = by_import minutes (import_of flow) (cases minutes pace) (import_small flow small)
  where
    cases : (minutes : ℕ) → IsReadingLength minutes → (minutes ≡ 15) ⊎ ((minutes ≡ 30) ⊎ (minutes ≡ 60))
    cases minutes h = grind (arith, nat_tests)

    quotient : (m n : ℕ) → (m ≡ 15) ⊎ ((m ≡ 30) ⊎ (m ≡ 60)) → n ≤ 2 * 10 ^ 9 → n * 60 / m ≤ 8 * 10 ^ 9
    quotient m n (inl e) h = rw e (omega arith)
    quotient m n (inr (inl e)) h = rw e (omega arith)
    quotient m n (inr (inr e)) h = rw e (omega arith)

    by_import : (m : ℕ) (import : ℤ) → (m ≡ 15) ⊎ ((m ≡ 30) ⊎ (m ≡ 60)) → IsUpTo (2 * 10 ^ 9) import → int_div (import *ℤ pos 60) (pos m) ≤ℤ pos (8 * 10 ^ 9)
    by_import m (pos n) pace small = let q = quotient m n pace (let high = small.1 in omega (arith, ints)) in omega (arith, ints)
    by_import m (negsuc n) pace small = absurd (let low = small.0 in omega (arith, ints))

-- a month's peak of a group
pub month_peak : (i : Inputs) (g : ℕ) (x : Tallied) → IsInRange i → g < 37 → IsTallied i x → IsUpTo (8 * 10 ^ 9) (slice_index_or x.peaks g (pos 0))
month_peak i g x fine below tallied =
    let peak = greatest_up_to (8 * 10 ^ 9) (length i.net) (λ t. if is_in_group i t g then power_of i.minutes (tallied.flow t) else pos 0)
    (λ k inside. held (is_in_group i k g) (power_of i.minutes (tallied.flow k)) (power_small i.minutes (tallied.flow k) fine.minutes (tallied.small k inside))) in
    let is : slice_index_or x.peaks g (pos 0) ≡ peak_to i tallied.flow (length i.net) g = ap (λ (y : Tallied). slice_index_or y.peaks g (pos 0)) tallied.is ∙ values_read 37 (peak_to i tallied.flow (length i.net)) g (pos 0) below in
    rw is peak
  where
    held : (b : Bool) (x : ℤ) → x ≤ℤ pos (8 * 10 ^ 9) → (if b then x else pos 0) ≤ℤ pos (8 * 10 ^ 9)
    held true x h = h
    held false x h = omega (arith, ints)

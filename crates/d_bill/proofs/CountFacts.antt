-- How the tally of the first intervals grows by one.
use Rattle.std.proofs.Common.{◌≡◌, ℕ, zero, suc, ℤ, pos, ◌+◌, ◌<◌, ◌==◌, ◌+ℤ◌, ◌*ℤ◌, ◌≤ℤ◌, List, length, get_or, arith, refl, sym, ap, ◌∙◌, if◌then◌else◌, slice_index_or, slice_set, Bool, true, false, replicate, nat_lt, ◌&&◌}
use Rattle.std.proofs.Math.Path.{ap₂}
use Rattle.std.specs.Int.{int_max}
use Rattle.std.proofs.lemmas.Int.{ints, clamps}
use Rattle.std.proofs.lemmas.Bool.Decides.{nat_tests}
use Rattle.std.proofs.lemmas.List.{length-replicate, get_or-replicate}
use Rattle.d_num.specs.Sums.{greatest_of_first}
use Rattle.d_num.proofs.Sums.{sum_more, sum_none, greatest_more, greatest_none}
use Rattle.d_bill.specs.Inputs.{Inputs, period_in, sell_at, is_in_group}
use Rattle.d_bill.specs.Flows.{import_of, export_of, power_of}
use Rattle.d_bill.specs.Totals.{Tallied, import_to, credit_to, peak_to, values_of, tally_to}
use Rattle.d_bill.specs.Counting.{raised_peak}
use Rattle.d_bill.proofs.Values.{values_read, values_same, values_all, values_set}

-- one more interval: the totals
pub totals_more : (i : Inputs) (flow : ℕ → ℤ) (t m p : ℕ) (import : ℤ) → p ≡ period_in i t → p < m → import ≡ import_of (flow t)
    → slice_set (values_of m (import_to i flow t)) p (slice_index_or (values_of m (import_to i flow t)) p (pos 0) +ℤ import) ≡ values_of m (import_to i flow (t + 1))
totals_more i flow t m p import is below imports =
    values_set m (import_to i flow t) (import_to i flow (t + 1)) p (slice_index_or (values_of m (import_to i flow t)) p (pos 0) +ℤ import) below
    (ap₂ ◌+ℤ◌ (values_read m (import_to i flow t) p (pos 0) below) (imports ∙ sym (counts (period_in i t) p (import_of (flow t)) (sym is))) ∙ sym (more p))
    (λ q _ apart. sym (more q ∙ ap (λ (z : ℤ). import_to i flow t q +ℤ z) (leaves (period_in i t) q (import_of (flow t)) (λ e. apart (sym e ∙ sym is))) ∙ none (import_to i flow t q)))
  where
    more : (q : ℕ) → import_to i flow (t + 1) q ≡ import_to i flow t q +ℤ (if period_in i t == q then import_of (flow t) else pos 0)
    more q = sum_more t (λ k. if period_in i k == q then import_of (flow k) else pos 0)

    counts : (p q : ℕ) (x : ℤ) → p ≡ q → (if p == q then x else pos 0) ≡ x
    counts p q x e = grind (arith, nat_tests)

    leaves : (p q : ℕ) (x : ℤ) → (p ≡ q → ⊥) → (if p == q then x else pos 0) ≡ pos 0
    leaves p q x apart = grind (arith, nat_tests)

    none : (z : ℤ) → z +ℤ pos 0 ≡ z
    none z = omega (arith, ints)

-- no greatest value is below 0
pub greatest_low : (n : ℕ) (f : ℕ → ℤ) → pos 0 ≤ℤ greatest_of_first n f
unfolding greatest_of_first
greatest_low zero f = omega (arith, ints)
greatest_low (suc n) f = let before = greatest_low n f in omega (arith, ints, clamps)

-- one more interval: the peaks
pub peaks_more : (i : Inputs) (flow : ℕ → ℤ) (t m : ℕ) (power : ℤ) → power ≡ power_of i.minutes (flow t)
    → values_of m (raised_peak i t (values_of m (peak_to i flow t)) power m) ≡ values_of m (peak_to i flow (t + 1))
peaks_more i flow t m power draws =
    values_same m (raised_peak i t (values_of m (peak_to i flow t)) power m) (peak_to i flow (t + 1)) each
  where
    by_test : (b b2 : Bool) (old read x power : ℤ) → b ≡ true → read ≡ old → pos 0 ≤ℤ old → power ≡ x → (if b && b2 then int_max read power else read) ≡ int_max old (if b2 then x else pos 0)
    by_test b true old read x power inside e low f = rw (inside, e, f) refl
    by_test b false old read x power inside e low f = rw (inside, e) (omega (arith, ints, clamps))

    below_is : (g m : ℕ) → g < m → nat_lt g m ≡ true
    below_is g m h = grind (arith, nat_tests)

    each : (g : ℕ) → g < m → raised_peak i t (values_of m (peak_to i flow t)) power m g ≡ peak_to i flow (t + 1) g
    each g below =
        by_test (nat_lt g m) (is_in_group i t g) (peak_to i flow t g) (slice_index_or (values_of m (peak_to i flow t)) g (pos 0)) (power_of i.minutes (flow t)) power
        (below_is g m below) (values_read m (peak_to i flow t) g (pos 0) below) (greatest_low t (λ k. if is_in_group i k g then power_of i.minutes (flow k) else pos 0)) draws
        ∙ sym (greatest_more t (λ k. if is_in_group i k g then power_of i.minutes (flow k) else pos 0))

-- no group's peak is raised yet
pub raised_none : (i : Inputs) (t m : ℕ) (old : List ℤ) (power : ℤ) → length old ≡ m → old ≡ values_of m (raised_peak i t old power 0)
raised_none i t m old power long = values_all m old (raised_peak i t old power 0) long (λ g _. kept g (is_in_group i t g) (int_max (slice_index_or old g (pos 0)) power) (slice_index_or old g (pos 0)))
  where
    kept : (g : ℕ) (b : Bool) (x y : ℤ) → y ≡ (if nat_lt g 0 && b then x else y)
    kept g b x y = grind (arith, nat_tests)

-- one more group's peak is raised
pub raised_more : (i : Inputs) (t m g : ℕ) (old : List ℤ) (power read v d : ℤ) → g < m → read ≡ get_or (values_of m (raised_peak i t old power g)) g d
    → v ≡ (if is_in_group i t g then int_max read power else read)
    → slice_set (values_of m (raised_peak i t old power g)) g v ≡ values_of m (raised_peak i t old power (g + 1))
raised_more i t m g old power read v d below is new =
    values_set m (raised_peak i t old power g) (raised_peak i t old power (g + 1)) g v below
    (here g (is_in_group i t g) read (slice_index_or old g (pos 0)) power v (is ∙ values_read m (raised_peak i t old power g) g d below) new)
    (λ h _ apart. there h g (is_in_group i t h) (int_max (slice_index_or old h (pos 0)) power) (slice_index_or old h (pos 0)) apart)
  where
    unchanged : (g : ℕ) (b : Bool) (x y : ℤ) → (if nat_lt g g && b then x else y) ≡ y
    unchanged g b x y = grind (arith, nat_tests)

    changed : (g : ℕ) (b : Bool) (x y : ℤ) → (if nat_lt g (g + 1) && b then x else y) ≡ (if b then x else y)
    changed g b x y = grind (arith, nat_tests)

    here : (g : ℕ) (b : Bool) (read old power v : ℤ) → read ≡ (if nat_lt g g && b then int_max old power else old) → v ≡ (if b then int_max read power else read)
        → v ≡ (if nat_lt g (g + 1) && b then int_max old power else old)
    here g b read old power v e f =
        let same : read ≡ old = e ∙ unchanged g b (int_max old power) old in
        f ∙ ap (λ (z : ℤ). if b then int_max z power else z) same ∙ sym (changed g b (int_max old power) old)

    there : (h g : ℕ) (b : Bool) (x y : ℤ) → (h ≡ g → ⊥) → (if nat_lt h g && b then x else y) ≡ (if nat_lt h (g + 1) && b then x else y)
    there h g b x y apart = grind (arith, nat_tests)

-- nothing is counted yet
zeros : (m : ℕ) (f : ℕ → ℤ) → ((k : ℕ) → f k ≡ pos 0) → replicate m (pos 0) ≡ values_of m f
zeros m f none = values_all m (replicate m (pos 0)) f (length-replicate m (pos 0)) (λ k below. get_or-replicate m k (pos 0) (pos 0) below ∙ sym (none k))

-- a tally from its parts
pub tally_parts : (a a2 : List ℤ) (c c2 : ℤ) (p p2 : List ℤ) → a ≡ a2 → c ≡ c2 → p ≡ p2 → ◌≡◌ {A = Tallied} (record { totals = a; credit = c; peaks = p }) (record { totals = a2; credit = c2; peaks = p2 })
tally_parts a a2 c c2 p p2 e f g = rw (e, f, g) refl

pub tally_none : (i : Inputs) (flow : ℕ → ℤ) → record { totals = replicate 36 (pos 0); credit = pos 0; peaks = replicate 37 (pos 0) } ≡ tally_to i flow 0
tally_none i flow =
    tally_parts (replicate 36 (pos 0)) (values_of 36 (import_to i flow 0)) (pos 0) (credit_to i flow 0) (replicate 37 (pos 0)) (values_of 37 (peak_to i flow 0))
    (zeros 36 (import_to i flow 0) (λ p. sum_none (λ k. if period_in i k == p then import_of (flow k) else pos 0)))
    (sym (sum_none (λ k. sell_at i k *ℤ export_of (flow k))))
    (zeros 37 (peak_to i flow 0) (λ g. greatest_none (λ k. if is_in_group i k g then power_of i.minutes (flow k) else pos 0)))

-- one more interval
pub tally_more : (i : Inputs) (f : ℕ → ℤ) (t p : ℕ) (totals totals2 : List ℤ) (credit credit2 : ℤ) (peaks peaks2 : List ℤ) (import sell export power : ℤ)
    → ◌≡◌ {A = Tallied} (record { totals = totals; credit = credit; peaks = peaks }) (tally_to i f t)
    → p ≡ period_in i t → p < 36 → import ≡ import_of (f t) → totals2 ≡ slice_set totals p (slice_index_or totals p (pos 0) +ℤ import)
    → sell ≡ sell_at i t → export ≡ export_of (f t) → credit2 ≡ credit +ℤ sell *ℤ export
    → power ≡ power_of i.minutes (f t) → peaks2 ≡ values_of 37 (raised_peak i t peaks power 37)
    → ◌≡◌ {A = Tallied} (record { totals = totals2; credit = credit2; peaks = peaks2 }) (tally_to i f (t + 1))
tally_more i f t p totals totals2 credit credit2 peaks peaks2 import sell export power is place below imports new_totals pays exports new_credit draws new_peaks =
    let at_totals : totals ≡ values_of 36 (import_to i f t) = ap (λ (x : Tallied). x.totals) is in
    let at_credit : credit ≡ credit_to i f t = ap (λ (x : Tallied). x.credit) is in
    let at_peaks : peaks ≡ values_of 37 (peak_to i f t) = ap (λ (x : Tallied). x.peaks) is in
    tally_parts totals2 (values_of 36 (import_to i f (t + 1))) credit2 (credit_to i f (t + 1)) peaks2 (values_of 37 (peak_to i f (t + 1)))
    (new_totals ∙ ap (λ (l : List ℤ). slice_set l p (slice_index_or l p (pos 0) +ℤ import)) at_totals ∙ totals_more i f t 36 p import place below imports)
    (new_credit ∙ ap₂ ◌+ℤ◌ at_credit (ap₂ ◌*ℤ◌ pays exports) ∙ sym (sum_more t (λ k. sell_at i k *ℤ export_of (f k))))
    (new_peaks ∙ ap (λ (l : List ℤ). values_of 37 (raised_peak i t l power 37)) at_peaks ∙ peaks_more i f t 37 power draws)

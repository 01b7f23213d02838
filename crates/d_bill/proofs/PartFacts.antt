-- A bill's sum in parts.
use Rattle.std.proofs.Common.{◌≡◌, ℕ, zero, suc, ℤ, pos, ◌<◌, ◌==◌, ◌+ℤ◌, ◌-ℤ◌, ◌*ℤ◌, List, length, arith, refl, ap, ◌∙◌, if◌then◌else◌, slice_index_or, Bool, true, false}
use Rattle.std.proofs.Math.Path.{ap₂}
use Rattle.std.proofs.lemmas.Int.{ints}
use Rattle.d_num.specs.Sums.{sum_of_first}
use Rattle.d_num.proofs.Sums.{sum_same, sum_both, sum_less, sum_zero, sum_one}
use Rattle.d_num.proofs.Times.{times_sum, times_zero}
use Rattle.d_bill.specs.Inputs.{Inputs, IsInRange, period_in, sell_at}
use Rattle.d_bill.specs.Flows.{import_of, export_of}
use Rattle.d_bill.specs.Totals.{import_to, credit_to, values_of, tally_by}
use Rattle.d_bill.specs.Bills.{sum_of, group_charges, period_charge}
use Rattle.d_bill.specs.Prices.{rate_of, cost_of_flow, rate_gaps}
use Rattle.d_bill.proofs.Values.{values_read}
use Rattle.d_bill.proofs.RangeFacts.{period_below}

-- a rate times what counts in one place only
picked : (b : Bool) (r x : ℤ) → r *ℤ (if b then x else pos 0) ≡ (if b then r *ℤ x else pos 0)
picked true r x = refl
picked false r x = times_zero r

-- the sum over the periods of rate times total is the sum over the intervals of rate times import
pub by_intervals : (m n : ℕ) (rate : ℕ → ℤ) (period : ℕ → ℕ) (import : ℕ → ℤ) → ((t : ℕ) → t < n → period t < m)
    → sum_of_first m (λ p. rate p *ℤ sum_of_first n (λ t. if period t == p then import t else pos 0)) ≡ sum_of_first n (λ t. rate (period t) *ℤ import t)
unfolding sum_of_first
by_intervals m zero rate period import within = sum_zero m (λ p. rate p *ℤ pos 0) (λ p _. times_zero (rate p))
by_intervals m (suc n) rate period import within =
    let here = λ (p : ℕ). if period n == p then import n else pos 0 in
    let before = λ (p : ℕ). sum_of_first n (λ t. if period t == p then import t else pos 0) in
    sum_same m (λ p. rate p *ℤ (before p +ℤ here p)) (λ p. rate p *ℤ before p +ℤ rate p *ℤ here p) (λ p _. times_sum (rate p) (before p) (here p))
    ∙ sum_both m (λ p. rate p *ℤ before p) (λ p. rate p *ℤ here p)
    ∙ ap₂ ◌+ℤ◌ (by_intervals m n rate period import (λ t below. within t (omega arith)))
    (sum_same m (λ p. rate p *ℤ here p) (λ p. if period n == p then rate p *ℤ import n else pos 0) (λ p _. picked (period n == p) (rate p) (import n))
    ∙ sum_one m (period n) (λ p. rate p *ℤ import n) (within n (omega arith)))

-- the totals at the rates
pub totals_at : (i : Inputs) (rates : List ℤ) (flow : ℕ → ℤ) → IsInRange i
    → sum_of_first 36 (λ p. rate_of rates p *ℤ slice_index_or (tally_by i flow).totals p (pos 0)) ≡ sum_of_first (length i.net) (λ t. rate_of rates (period_in i t) *ℤ import_of (flow t))
totals_at i rates flow fine =
    sum_same 36 (λ p. rate_of rates p *ℤ slice_index_or (values_of 36 (import_to i flow (length i.net))) p (pos 0)) (λ p. rate_of rates p *ℤ import_to i flow (length i.net) p)
    (λ p below. ap (λ (z : ℤ). rate_of rates p *ℤ z) (values_read 36 (import_to i flow (length i.net)) p (pos 0) below))
    ∙ by_intervals 36 (length i.net) (rate_of rates) (period_in i) (λ t. import_of (flow t)) (period_below i fine)

-- a bill's sum in parts
pub parted_sum : (i : Inputs) (rates : List ℤ) (flow : ℕ → ℤ) → IsInRange i
    → sum_of i (tally_by i flow) ≡ (i.fixed +ℤ group_charges i (tally_by i flow)) +ℤ (rate_gaps i rates (tally_by i flow) +ℤ cost_of_flow i rates flow)
parted_sum i rates flow fine =
    let x = tally_by i flow in
    let n = length i.net in
    let gaps : rate_gaps i rates x ≡ sum_of_first 36 (period_charge i x) -ℤ sum_of_first 36 (λ p. rate_of rates p *ℤ slice_index_or x.totals p (pos 0)) =
    sum_less 36 (period_charge i x) (λ p. rate_of rates p *ℤ slice_index_or x.totals p (pos 0)) in
    let steps : cost_of_flow i rates flow ≡ sum_of_first n (λ t. rate_of rates (period_in i t) *ℤ import_of (flow t)) -ℤ credit_to i flow n =
    sum_less n (λ t. rate_of rates (period_in i t) *ℤ import_of (flow t)) (λ t. sell_at i t *ℤ export_of (flow t)) in
    linear i.fixed (sum_of_first 36 (period_charge i x)) (credit_to i flow n) (group_charges i x) (rate_gaps i rates x) (cost_of_flow i rates flow)
    (sum_of_first 36 (λ p. rate_of rates p *ℤ slice_index_or x.totals p (pos 0))) (sum_of_first n (λ t. rate_of rates (period_in i t) *ℤ import_of (flow t))) gaps steps (totals_at i rates flow fine)
  where
    linear : (fixed charges credit groups gaps cost at_periods at_intervals : ℤ) → gaps ≡ charges -ℤ at_periods → cost ≡ at_intervals -ℤ credit → at_periods ≡ at_intervals
        → ((fixed +ℤ charges) -ℤ credit) +ℤ groups ≡ (fixed +ℤ groups) +ℤ (gaps +ℤ cost)
    linear fixed charges credit groups gaps cost at_periods at_intervals e f g = omega (arith, ints)

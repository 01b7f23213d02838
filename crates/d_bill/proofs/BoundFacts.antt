-- A month's sum is at most 10^35 in size: in an interval import or export is 0, and all of a group's power but a floor's is of some interval.
use Rattle.std.proofs.Common.{◌≡◌, ◌⊎◌, inl, inr, ℕ, zero, suc, ℤ, pos, negsuc, neg_ℤ, ◌+◌, ◌*◌, ◌^◌, ◌<◌, ◌≤◌, ◌+ℤ◌, ◌-ℤ◌, ◌*ℤ◌, ◌≤ℤ◌, length, arith, ap, ◌∙◌, if◌then◌else◌, slice_index_or, Bool, true, false, nat_lt}
use Rattle.std.specs.Prelude.{unsigned_abs}
use Rattle.std.proofs.lemmas.Int.{ints, clamps}
use Rattle.std.proofs.lemmas.Bool.Decides.{nat_tests}
use Rattle.d_num.specs.Amount.{IsWithin, IsUpTo}
use Rattle.d_num.specs.Sums.{sum_of_first}
use Rattle.d_num.proofs.Products.{product_within}
use Rattle.d_num.proofs.Sums.{sum_more, sum_both, sum_up_to, sum_within}
use Rattle.d_bill.specs.Inputs.{Inputs, IsInRange, period_in, sell_at}
use Rattle.d_bill.specs.Flows.{import_of, export_of}
use Rattle.d_bill.specs.Totals.{Tallied, import_to, IsTallied}
use Rattle.d_bill.specs.Bills.{period_charge, group_charge, group_charges}
use Rattle.d_bill.specs.Counting.{total_limit, group_limit}
use Rattle.d_bill.proofs.Values.{values_read}
use Rattle.d_bill.proofs.RangeFacts.{period_below}
use Rattle.d_bill.proofs.PartFacts.{by_intervals}
use Rattle.d_bill.proofs.TierFacts.{import_low}
use Rattle.d_bill.proofs.SizeFacts.{sell_within}

-- from one number turned round to the number itself
IsBetween : ℤ → ℤ → Type 0
IsBetween most z = (neg_ℤ most ≤ℤ z) × (z ≤ℤ most)

-- a sum is between what its terms are between
sum_between : (n : ℕ) (f most : ℕ → ℤ) → ((k : ℕ) → k < n → IsBetween (most k) (f k)) → IsBetween (sum_of_first n most) (sum_of_first n f)
unfolding sum_of_first IsBetween
sum_between zero f most each = (omega (arith, ints), omega (arith, ints))
sum_between (suc n) f most each =
    let before = sum_between n f most (λ k below. each k (omega arith)) in
    let last = each n (omega arith) in
    (omega (arith, ints, before.0, last.0), omega (arith, ints, before.1, last.1))

-- a limit of 3000 USD per kWh, for an amount from 0 up
at_most_price : (amount z : ℤ) → pos 0 ≤ℤ amount → IsWithin (3 * 10 ^ 21 * unsigned_abs amount) z → IsBetween (pos (3 * 10 ^ 21) *ℤ amount) z
unfolding IsBetween
at_most_price (pos n) z low h = (omega (arith, ints, h.0), omega (arith, ints, h.1))
at_most_price (negsuc n) z low h = absurd (omega (arith, ints))

-- what an interval can cost and earn
cost_limit : (ℕ → ℤ) → ℕ → ℤ
cost_limit flow t = pos (3 * 10 ^ 21) *ℤ import_of (flow t)

earn_limit : (ℕ → ℤ) → ℕ → ℤ
earn_limit flow t = pos (3 * 10 ^ 21) *ℤ export_of (flow t)

-- both together
both_small : (flow : ℤ) → IsWithin (2 * 10 ^ 9) flow → IsUpTo (6 * 10 ^ 30) (pos (3 * 10 ^ 21) *ℤ import_of flow +ℤ pos (3 * 10 ^ 21) *ℤ export_of flow)
both_small flow h = (omega (arith, ints, clamps, h.0, h.1), omega (arith, ints, clamps, h.0, h.1))

limits_small : (n : ℕ) (flow : ℕ → ℤ) → ((t : ℕ) → t < n → IsWithin (2 * 10 ^ 9) (flow t)) → IsUpTo (6 * 10 ^ 30 * n) (sum_of_first n (cost_limit flow) +ℤ sum_of_first n (earn_limit flow))
unfolding cost_limit earn_limit
limits_small n flow small = rw (← sum_both n (cost_limit flow) (earn_limit flow)) (sum_up_to (6 * 10 ^ 30) n (λ t. cost_limit flow t +ℤ earn_limit flow t) (λ t below. both_small (flow t) (small t below)))

-- what the periods charge
periods_between : (i : Inputs) (x : Tallied) (fine : IsInRange i) (tallied : IsTallied i x) → ((p : ℕ) → p < 36 → IsWithin (total_limit x p) (period_charge i x p))
    → IsBetween (sum_of_first (length i.net) (cost_limit tallied.flow)) (sum_of_first 36 (period_charge i x))
unfolding cost_limit
periods_between i x fine tallied each =
    rw (← by_intervals 36 (length i.net) (λ p. pos (3 * 10 ^ 21)) (period_in i) (λ t. import_of (tallied.flow t)) (period_below i fine))
    (sum_between 36 (period_charge i x) (λ p. pos (3 * 10 ^ 21) *ℤ import_to i tallied.flow (length i.net) p)
    (λ p below. rw (← total p below) (at_most_price (slice_index_or x.totals p (pos 0)) (period_charge i x p) (rw (total p below) (import_low i tallied.flow (length i.net) p)) (each p below))))
  where
    total : (p : ℕ) → p < 36 → slice_index_or x.totals p (pos 0) ≡ import_to i tallied.flow (length i.net) p
    total p below = ap (λ (y : Tallied). slice_index_or y.totals p (pos 0)) tallied.is ∙ values_read 36 (import_to i tallied.flow (length i.net)) p (pos 0) below

-- what is paid for the export
credit_between : (i : Inputs) (x : Tallied) (fine : IsInRange i) (tallied : IsTallied i x) → IsBetween (sum_of_first (length i.net) (earn_limit tallied.flow)) x.credit
unfolding earn_limit
credit_between i x fine tallied =
    rw (ap (λ (y : Tallied). y.credit) tallied.is)
    (sum_between (length i.net) (λ t. sell_at i t *ℤ export_of (tallied.flow t)) (earn_limit tallied.flow)
    (λ t below. at_most_price (export_of (tallied.flow t)) (sell_at i t *ℤ export_of (tallied.flow t)) (low (tallied.flow t))
    (product_within (3 * 10 ^ 21) (unsigned_abs (export_of (tallied.flow t))) (sell_at i t) (export_of (tallied.flow t)) (sell_within i (period_in i t) fine (period_below i fine t below)) (own (export_of (tallied.flow t))))))
  where
    low : (flow : ℤ) → pos 0 ≤ℤ export_of flow
    low flow = omega (arith, ints, clamps)

    own : (z : ℤ) → IsWithin (unsigned_abs z) z
    own (pos n) = (omega (arith, ints), omega (arith, ints))
    own (negsuc n) = (omega (arith, ints), omega (arith, ints))

-- what the groups charge: each demand group by its intervals alone, and the flat group perhaps by a floor
pub groups_small : (i : Inputs) (x : Tallied) → IsInRange i → ((g : ℕ) → g < length i.peaks → IsWithin (group_limit i g) (group_charge i x g)) → IsWithin (4 * 10 ^ 34) (group_charges i x)
groups_small i x fine each = by_flat (length i.peaks) (length i.demand_groups) (group_charge i x) each fine.few_demand_groups fine.flat_group
  where
    inside : (g n : ℕ) → g < n → nat_lt g n ≡ true
    inside g n h = grind (arith, nat_tests)

    held : (b : Bool) (z : ℤ) → b ≡ true → IsWithin (if b then 24 * 10 ^ 30 else 3 * 10 ^ 34) z → IsWithin (24 * 10 ^ 30) z
    held b z e h = rw e at h

    any : (b : Bool) (z : ℤ) → IsWithin (if b then 24 * 10 ^ 30 else 3 * 10 ^ 34) z → IsWithin (3 * 10 ^ 34) z
    any true z h = (omega (arith, ints, h.0), omega (arith, ints, h.1))
    any false z h = h

    demands : (n d : ℕ) (f : ℕ → ℤ) → n ≤ d → ((g : ℕ) → g < n → IsWithin (if nat_lt g d then 24 * 10 ^ 30 else 3 * 10 ^ 34) (f g)) → IsWithin (24 * 10 ^ 30 * n) (sum_of_first n f)
    demands n d f within each = sum_within (24 * 10 ^ 30) n f (λ g below. held (nat_lt g d) (f g) (inside g d (omega arith)) (each g below))

    fits : (n : ℕ) (z : ℤ) → n ≤ 36 → IsWithin (24 * 10 ^ 30 * n) z → IsWithin (10 ^ 33) z
    fits n z few h = (omega (arith, ints, h.0), omega (arith, ints, h.1))

    order : (n d : ℕ) → n ≤ d + 1 → (n ≤ d) ⊎ (n ≡ d + 1)
    order n d h = grind arith

    with_last : (whole before last : ℤ) → whole ≡ before +ℤ last → IsWithin (10 ^ 33) before → IsWithin (3 * 10 ^ 34) last → IsWithin (4 * 10 ^ 34) whole
    with_last whole before last e a b = (omega (arith, ints, a.0, b.0), omega (arith, ints, a.1, b.1))

    wider : (z : ℤ) → IsWithin (10 ^ 33) z → IsWithin (4 * 10 ^ 34) z
    wider z h = (omega (arith, ints, h.0), omega (arith, ints, h.1))

    by_order : (n d : ℕ) (f : ℕ → ℤ) → ((g : ℕ) → g < n → IsWithin (if nat_lt g d then 24 * 10 ^ 30 else 3 * 10 ^ 34) (f g)) → d ≤ 36 → (n ≤ d) ⊎ (n ≡ d + 1) → IsWithin (4 * 10 ^ 34) (sum_of_first n f)
    by_order n d f each few (inl within) = wider (sum_of_first n f) (fits n (sum_of_first n f) (omega arith) (demands n d f within each))
    by_order n d f each few (inr e) =
        with_last (sum_of_first n f) (sum_of_first d f) (f d) (ap (λ (k : ℕ). sum_of_first k f) e ∙ sum_more d f)
        (fits d (sum_of_first d f) few (demands d d f (omega arith) (λ g below. each g (omega arith)))) (any (nat_lt d d) (f d) (each d (omega arith)))

    by_flat : (n d : ℕ) (f : ℕ → ℤ) → ((g : ℕ) → g < n → IsWithin (if nat_lt g d then 24 * 10 ^ 30 else 3 * 10 ^ 34) (f g)) → d ≤ 36 → n ≤ d + 1 → IsWithin (4 * 10 ^ 34) (sum_of_first n f)
    by_flat n d f each few flat = by_order n d f each few (order n d flat)

-- periods and credit together
pub record IsSmallEnergy (charges credit : ℤ) : Type 0 where
  pub charges_small : IsWithin (6 * 10 ^ 34) charges
  pub credit_small : IsWithin (6 * 10 ^ 34) credit
  pub both : IsWithin (54 * 10 ^ 33) (charges -ℤ credit)

pub energy_small : (i : Inputs) (x : Tallied) → IsInRange i → IsTallied i x → ((p : ℕ) → p < 36 → IsWithin (total_limit x p) (period_charge i x p)) → IsSmallEnergy (sum_of_first 36 (period_charge i x)) x.credit
unfolding IsBetween
energy_small i x fine tallied each =
    linear (sum_of_first 36 (period_charge i x)) x.credit (sum_of_first (length i.net) (cost_limit tallied.flow)) (sum_of_first (length i.net) (earn_limit tallied.flow)) (length i.net)
    (periods_between i x fine tallied each) (credit_between i x fine tallied) (limits_small (length i.net) tallied.flow tallied.small) fine.few_intervals
  where
    linear : (charges credit cost earn : ℤ) (n : ℕ) → (neg_ℤ cost ≤ℤ charges) × (charges ≤ℤ cost) → (neg_ℤ earn ≤ℤ credit) × (credit ≤ℤ earn) → IsUpTo (6 * 10 ^ 30 * n) (cost +ℤ earn) → n ≤ 8928 → IsSmallEnergy charges credit
    linear charges credit cost earn n a b c few = record {
      charges_small = (omega (arith, ints, a.0, a.1, b.0, b.1, c.1), omega (arith, ints, a.0, a.1, b.0, b.1, c.1));
      credit_small = (omega (arith, ints, a.0, a.1, b.0, b.1, c.1), omega (arith, ints, a.0, a.1, b.0, b.1, c.1));
      both = (omega (arith, ints, a.0, a.1, b.0, b.1, c.1), omega (arith, ints, a.0, a.1, b.0, b.1, c.1));
    }

-- a sum, step by step
pub record IsSmallSum (fixed periods credit groups : ℤ) : Type 0 where
  pub charged : IsWithin (10 ^ 37) (fixed +ℤ periods)
  pub less : IsWithin (10 ^ 37) ((fixed +ℤ periods) -ℤ credit)
  pub money : IsWithin (10 ^ 37) (((fixed +ℤ periods) -ℤ credit) +ℤ groups)
  pub whole : IsWithin (10 ^ 35) (((fixed +ℤ periods) -ℤ credit) +ℤ groups)

pub sum_small : (i : Inputs) (x : Tallied) → IsInRange i → IsTallied i x → ((p : ℕ) → p < 36 → IsWithin (total_limit x p) (period_charge i x p))
    → ((g : ℕ) → g < length i.peaks → IsWithin (group_limit i g) (group_charge i x g)) → IsSmallSum i.fixed (sum_of_first 36 (period_charge i x)) x.credit (group_charges i x)
sum_small i x fine tallied periods groups =
    linear i.fixed (sum_of_first 36 (period_charge i x)) x.credit (group_charges i x) fine.fixed (energy_small i x fine tallied periods) (groups_small i x fine groups)
  where
    linear : (fixed periods credit groups : ℤ) → IsWithin (10 ^ 32) fixed → IsSmallEnergy periods credit → IsWithin (4 * 10 ^ 34) groups → IsSmallSum fixed periods credit groups
    linear fixed periods credit groups a e d =
        let b = e.charges_small in
        let c = e.both in
        record {
          charged = (omega (arith, ints, a.0, b.0), omega (arith, ints, a.1, b.1));
          less = (omega (arith, ints, a.0, c.0), omega (arith, ints, a.1, c.1));
          money = (omega (arith, ints, a.0, c.0, d.0), omega (arith, ints, a.1, c.1, d.1));
          whole = (omega (arith, ints, a.0, c.0, d.0), omega (arith, ints, a.1, c.1, d.1));
        }

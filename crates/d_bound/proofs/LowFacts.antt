-- What a group charges at the low end of its range.
use Rattle.std.proofs.Common.{ℕ, ℤ, pos, ◌≡◌, ◌<◌, ◌≤◌, ◌+◌, ◌*◌, ◌^◌, ◌+ℤ◌, List, length, All, sym, subst, ap, ◌∙◌, arith, get_or}
use Rattle.std.proofs.Math.Path.{ap₂}
use Rattle.std.proofs.lemmas.Int.{ints}
use Rattle.d_num.specs.Amount.{IsUpTo, IsWithin}
use Rattle.d_num.specs.Sums.{sum_of_first}
use Rattle.d_num.proofs.Sums.{sum_more, sum_none}
use Rattle.d_tier.specs.declared.peak.Peak.{Peak}
use Rattle.d_box.specs.declared.space.Space.{Space}
use Rattle.d_bill.specs.Inputs.{Inputs, IsInRange, HasPeakPrices}
use Rattle.d_bound.specs.Nodes.{low_charge}

within : (most : ℕ) (z : ℤ) → IsUpTo most z → IsWithin most z
within most z h = let low = h.0 in (omega (arith, ints), h.1)

-- the prices of a group that was read are of that size at most
pub prices_at : (peaks read : List Peak) (group : ℕ) (peak : Peak) → read ≡ peaks → All HasPeakPrices peaks → group < length peaks → peak ≡ get_or read group peak → All (λ tier. IsWithin (3 * 10 ^ 21) tier.price) peak.tiers
prices_at peaks read group peak same all there is k e lt =
    let at : HasPeakPrices (get_or peaks group peak) = all group peak there in
    let here : HasPeakPrices peak = subst (λ (p : Peak). HasPeakPrices p) (sym (is ∙ ap (λ (l : List Peak). get_or l group peak) same)) at in
    within (3 * 10 ^ 21) _ (here.tiers k e lt)

-- the sum so far
pub record IsLowSum (i : Inputs) (space : Space) (n : ℕ) (sum : ℤ) : Type 0 where
  pub value : sum ≡ sum_of_first n (low_charge i space)
  pub range : IsWithin (3 * 10 ^ 34 * n) sum

-- nothing yet
pub low_none : (i : Inputs) (space : Space) (zero : ℤ) → zero ≡ pos 0 → IsLowSum i space 0 zero
low_none i space zero is = record { value = is ∙ sym (sum_none (low_charge i space)); range = (omega (arith, ints), omega (arith, ints)) }

-- with one more charge
pub low_more : (i : Inputs) (space : Space) (n : ℕ) (sum charge new : ℤ) → IsLowSum i space n sum → charge ≡ low_charge i space n → IsWithin (3 * 10 ^ 34) charge → new ≡ sum +ℤ charge → IsLowSum i space (n + 1) new
low_more i space n sum charge new before here small is = record {
  value = is ∙ ap₂ ◌+ℤ◌ before.value here ∙ sym (sum_more n (low_charge i space));
  range = both n sum charge new before.range small is;
}
  where
    both : (n : ℕ) (sum charge new : ℤ) → IsWithin (3 * 10 ^ 34 * n) sum → IsWithin (3 * 10 ^ 34) charge → new ≡ sum +ℤ charge → IsWithin (3 * 10 ^ 34 * (n + 1)) new
    both n sum charge new a b e = (omega (arith, ints, a.0, b.0), omega (arith, ints, a.1, b.1))

-- the sum of a number of charges that there may be
pub low_small : (i : Inputs) (space : Space) (n : ℕ) (sum : ℤ) → IsLowSum i space n sum → n ≤ 37 → IsWithin (2 * 10 ^ 36) sum
low_small i space n sum low few = fits n sum low.range few
  where
    fits : (n : ℕ) (sum : ℤ) → IsWithin (3 * 10 ^ 34 * n) sum → n ≤ 37 → IsWithin (2 * 10 ^ 36) sum
    fits n sum a few = (omega (arith, ints, a.0), omega (arith, ints, a.1))

-- and with one more it is in range
pub low_fits : (i : Inputs) (space : Space) (n : ℕ) (sum charge : ℤ) → IsLowSum i space n sum → n ≤ 37 → IsWithin (3 * 10 ^ 34) charge → IsWithin (10 ^ 37) (sum +ℤ charge)
low_fits i space n sum charge low few small = fits sum charge (low_small i space n sum low few) small
  where
    fits : (sum charge : ℤ) → IsWithin (2 * 10 ^ 36) sum → IsWithin (3 * 10 ^ 34) charge → IsWithin (10 ^ 37) (sum +ℤ charge)
    fits sum charge a b = (omega (arith, ints, a.0, b.0), omega (arith, ints, a.1, b.1))

-- there are at most 37 groups
pub groups_few : (i : Inputs) → IsInRange i → length i.peaks ≤ 37
groups_few i fine = let a = fine.few_demand_groups in let b = fine.flat_group in omega arith

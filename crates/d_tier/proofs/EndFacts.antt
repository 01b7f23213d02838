-- Which tier holds an amount, and the lowest end strictly between two amounts.
use Rattle.std.proofs.Common.{◌≡◌, ℕ, zero, suc, ℤ, ◌+◌, ◌-◌, ◌<◌, ◌≤◌, ◌≤ℤ◌, ◌<ℤ◌, true, false, List, [], ◌∷◌, length, drop, Option, Some, inl, inr, arith, refl, sym, ap, subst, ◌∙◌}
use Rattle.std.proofs.lemmas.Bool.{cases_eq}
use Rattle.std.proofs.lemmas.Int.{ints}
use Rattle.d_tier.specs.declared.tier.Tier.{Tier}
use Rattle.d_tier.specs.Tables.{end_at, IsTierTable}
use Rattle.d_tier.specs.TierEnds.{ends_by, holding, HasNoInner}
use Rattle.d_tier.specs.Steps.{IsLowestTo, IsLowered}

later : (tiers : List Tier) (k : ℕ) (x : ℤ) → suc k < length tiers → ends_by (end_at tiers k) x ≡ true
    → holding (drop k tiers) x ≡ suc (holding (drop (suc k) tiers) x)
unfolding holding
later [] k x lt e = absurd (omega arith)
later (tier ∷ []) k x lt e = absurd (omega arith)
later (tier ∷ next ∷ rest) zero x lt e = rw e refl
later (tier ∷ next ∷ rest) (suc k) x lt e = later (next ∷ rest) k x (omega arith) e

-- a tier that ends by the amount and isn't the last doesn't hold it
pub holds_later : (tiers : List Tier) (k : ℕ) (x : ℤ) (n : ℕ) → k + 1 < length tiers → ends_by (end_at tiers k) x ≡ true
    → k + holding (drop k tiers) x ≡ n → k + 1 + holding (drop (k + 1) tiers) x ≡ n
holds_later tiers k x n lt e sum =
    let one : suc k ≡ k + 1 = omega arith in
    let h = later tiers k x (omega arith) e in
    let moved : holding (drop (suc k) tiers) x ≡ holding (drop (k + 1) tiers) x = ap (λ m. holding (drop m tiers) x) one in
    omega arith

-- one that doesn't end by the amount holds it, where those before it don't
pub holds_here : (tiers : List Tier) (k : ℕ) (x : ℤ) → k + 1 < length tiers → ends_by (end_at tiers k) x ≡ false → holding (drop k tiers) x ≡ 0
unfolding holding
holds_here [] k x lt e = absurd (omega arith)
holds_here (tier ∷ []) k x lt e = absurd (omega arith)
holds_here (tier ∷ next ∷ rest) zero x lt e = rw e refl
holds_here (tier ∷ next ∷ rest) (suc k) x lt e = holds_here (next ∷ rest) k x (omega arith) e

-- and so does the last
pub holds_last : (tiers : List Tier) (k : ℕ) (x : ℤ) → k + 1 ≡ length tiers → holding (drop k tiers) x ≡ 0
unfolding holding
holds_last [] k x e = absurd (omega arith)
holds_last (tier ∷ []) zero x e = refl
holds_last (tier ∷ []) (suc k) x e = absurd (omega arith)
holds_last (tier ∷ next ∷ rest) zero x e = absurd (omega arith)
holds_last (tier ∷ next ∷ rest) (suc k) x e = holds_last (next ∷ rest) k x (omega arith)

-- a tier that doesn't end by the amount is the one that holds it
pub found_here : (tiers : List Tier) (k last : ℕ) (x : ℤ) → last ≡ length tiers → k < last - 1 → ends_by (end_at tiers k) x ≡ false
    → k + holding (drop k tiers) x ≡ holding tiers x → k ≡ holding tiers x
found_here tiers k last x long lt e sum = let z = holds_here tiers k x (omega arith) e in omega arith

pub found_later : (tiers : List Tier) (k last : ℕ) (x : ℤ) → last ≡ length tiers → k < last - 1 → ends_by (end_at tiers k) x ≡ true
    → k + holding (drop k tiers) x ≡ holding tiers x → k + 1 + holding (drop (k + 1) tiers) x ≡ holding tiers x
found_later tiers k last x long lt e sum = holds_later tiers k x (holding tiers x) (omega arith) e sum

found_last : (tiers : List Tier) (k last : ℕ) (x : ℤ) → 1 ≤ last → last ≡ length tiers → k ≡ last - 1
    → k + holding (drop k tiers) x ≡ holding tiers x → last - 1 ≡ holding tiers x
found_last tiers k last x some long at sum = let z = holds_last tiers k x (omega arith) in omega arith

some_tier : (tiers : List Tier) → IsTierTable tiers → 1 ≤ length tiers
some_tier [] table = absurd table.whole
some_tier (tier ∷ rest) table = omega arith

-- where none but the last can hold it, the last does
pub found_end : (tiers : List Tier) (k last : ℕ) (x : ℤ) → IsTierTable tiers → last ≡ length tiers → last - 1 ≤ k → k ≤ last - 1
    → k + holding (drop k tiers) x ≡ holding tiers x → last - 1 ≡ holding tiers x
found_end tiers k last x table long from to sum = let some = some_tier tiers table in found_last tiers k last x (omega arith) long (omega arith) sum

none_more : (tiers : List Tier) (low at : ℤ) (n : ℕ) → HasNoInner tiers low at n → ((e : ℤ) → end_at tiers n ≡ Some e → low <ℤ e → at ≤ℤ e) → HasNoInner tiers low at (n + 1)
none_more tiers low at n none here k e lt is above = elim (cases_eq k n) [
  | inl same ↦ here e (subst (λ j. end_at tiers j ≡ Some e) same is) above
  | inr ne ↦ none k e (omega arith) is above
]

-- the next tier's end isn't lower
pub inner_same : (tiers : List Tier) (low high : ℤ) (n : ℕ) (at : ℤ) → IsLowestTo tiers low high n at → ((e : ℤ) → end_at tiers n ≡ Some e → low <ℤ e → at ≤ℤ e) → IsLowestTo tiers low high (n + 1) at
inner_same tiers low high n at s here =
    let none = none_more tiers low at n s.none here in
    record {
      none = none;
      reached = elim s.reached [
        | inl e ↦ inl e
        | inr r ↦ inr (record { tier = r.tier; inside = (let i = r.inside in omega arith); there = r.there; above = r.above; below = r.below; lowest = none })
      ];
    }

at_most_high : (tiers : List Tier) (low high : ℤ) (n : ℕ) (at : ℤ) → IsLowestTo tiers low high n at → at ≤ℤ high
at_most_high tiers low high n at s = elim s.reached [ inl e ↦ subst (λ z. at ≤ℤ z) e (omega (arith, ints)) | inr r ↦ (let b = r.below in omega (arith, ints)) ]

-- the next tier's end is lower
pub inner_lower : (tiers : List Tier) (low high : ℤ) (n : ℕ) (at e : ℤ) → IsLowestTo tiers low high n at → end_at tiers n ≡ Some e → low <ℤ e → e <ℤ at → IsLowestTo tiers low high (n + 1) e
inner_lower tiers low high n at e s is above lower =
    let none = none_more tiers low e n (λ k f lt there over. let h = s.none k f lt there over in omega (arith, ints)) (λ f there over. let same : Some e ≡ Some f = sym is ∙ there in grind (arith, ints)) in
    let most = at_most_high tiers low high n at s in
    record { none = none; reached = inr (record { tier = n; inside = omega arith; there = is; above = above; below = omega (arith, ints); lowest = none }) }

-- one more tier
pub inner_step : (tiers : List Tier) (low high : ℤ) (n : ℕ) (at new : ℤ) (end : Option ℤ) → IsLowestTo tiers low high n at → end ≡ end_at tiers n → IsLowered low at end new → IsLowestTo tiers low high (n + 1) new
inner_step tiers low high n at new end s is l = elim l.one [
  | inl e ↦ subst (λ z. IsLowestTo tiers low high (n + 1) z) (sym e) (inner_same tiers low high n at s (λ f here over. subst (λ z. z ≤ℤ f) e (l.below f (is ∙ here) over)))
  | inr o ↦ inner_lower tiers low high n at new s (sym is ∙ o.0) o.1 o.2
]

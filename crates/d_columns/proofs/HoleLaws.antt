-- What the least hole of a period tells, for the crates above.
use Rattle.std.proofs.Common.{◌≡◌, ◌⊎◌, inl, inr, ℕ, suc, ◌<◌, ◌≤◌, Bool, true, false, Option, None, Some, refl, sym, ap, ◌∙◌, arith}
use Rattle.std.proofs.lemmas.Bool.{cases_lt}
use Rattle.d_columns.specs.declared.names.Structure.{Structure}
use Rattle.d_columns.specs.Tiers.{Row, has_tier, is_hole, IsLeastHole}
use Rattle.d_columns.proofs.HoleFacts.{late_tier, inner_is}

-- where there is no hole, tier 16 isn't there, and a tier is there only where the one before it is
pub no_16 : (row : Row) (structure : Structure) (period : ℕ) → IsLeastHole row structure period None → has_tier row structure period 16 ≡ false
no_16 row structure period none = by_test (has_tier row structure period 16) refl
  where
    by_test : (test : Bool) → has_tier row structure period 16 ≡ test → has_tier row structure period 16 ≡ false
    by_test false is = is
    by_test true is = absurd (let e : true ≡ false = sym (late_tier row structure period 16 (omega arith) is) ∙ none 16 in cc)

pub one_before : (row : Row) (structure : Structure) (period tier : ℕ) → IsLeastHole row structure period None → tier ≤ 14
    → has_tier row structure period (suc tier) ≡ true → has_tier row structure period tier ≡ true
one_before row structure period tier none small there = by_test (has_tier row structure period tier) refl
  where
    by_test : (test : Bool) → has_tier row structure period tier ≡ test → has_tier row structure period tier ≡ true
    by_test true is = is
    by_test false is =
        let hole : is_hole row structure period (suc tier) ≡ true = inner_is row structure period tier small ∙ rw (there, is) refl in
        absurd (let e : true ≡ false = sym hole ∙ none (suc tier) in cc)

-- the least tier at which a test holds is one
least_once : (test : ℕ → Bool) (a b : ℕ) → test a ≡ true → test b ≡ true → ((tier : ℕ) → tier < a → test tier ≡ false) → ((tier : ℕ) → tier < b → test tier ≡ false) → a ≡ b
least_once test a b holds_a holds_b below_a below_b = by_order (cases_lt a b) (cases_lt b a)
  where
    by_order : (a < b) ⊎ (b ≤ a) → (b < a) ⊎ (a ≤ b) → a ≡ b
    by_order (inl lt) other = absurd (let bad : true ≡ false = sym holds_a ∙ below_b a lt in cc)
    by_order (inr le) (inl lt) = absurd (let bad : true ≡ false = sym holds_b ∙ below_a b lt in cc)
    by_order (inr le) (inr ge) = omega arith

hole_none : (row : Row) (structure : Structure) (period tier : ℕ) → is_hole row structure period tier ≡ true → ((other : ℕ) → is_hole row structure period other ≡ false) → ⊥
hole_none row structure period tier holds none = let bad : true ≡ false = sym holds ∙ none tier in cc

pub hole_once : (row : Row) (structure : Structure) (period : ℕ) (a b : Option ℕ) → IsLeastHole row structure period a → IsLeastHole row structure period b → a ≡ b
hole_once row structure period None None ha hb = refl
hole_once row structure period None (Some b) ha hb = absurd (hole_none row structure period b hb.0 ha)
hole_once row structure period (Some a) None ha hb = absurd (hole_none row structure period a ha.0 hb)
hole_once row structure period (Some a) (Some b) ha hb = ap Some (least_once (is_hole row structure period) a b ha.0 hb.0 ha.1 hb.1)

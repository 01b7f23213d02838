-- Where the least hole of a period is.
use Rattle.std.proofs.Common.{◌≡◌, ℕ, zero, suc, ◌+◌, ◌-◌, ◌<◌, ◌≤◌, Bool, true, false, not, ◌&&◌, ◌||◌, nat_lt, None, Some, refl, sym, ap, ◌∙◌, arith, ◌⊎◌, inl, inr}
use Rattle.std.proofs.lemmas.Bool.{cases_lt}
use Rattle.std.proofs.lemmas.Bool.Decides.{nat_tests}
use Rattle.d_columns.specs.declared.names.Structure.{Structure}
use Rattle.d_columns.specs.Tiers.{Row, has_tier, is_hole, IsLeastHole}

-- a tier that isn't there is no hole
pub no_tier : (row : Row) (structure : Structure) (period tier : ℕ) → has_tier row structure period tier ≡ false → is_hole row structure period tier ≡ false
unfolding is_hole
no_tier row structure period zero none = refl
no_tier row structure period (suc tier) none = rw none refl

-- a tier past the last that is there is one
past_test : (n : ℕ) → 15 ≤ n → nat_lt 14 n ≡ true
past_test n late = grind (arith, nat_tests)

or_late : (a b : Bool) → b ≡ true → (a || b) ≡ true
or_late true b late = refl
or_late false b late = late

pub late_tier : (row : Row) (structure : Structure) (period tier : ℕ) → 16 ≤ tier → has_tier row structure period tier ≡ true → is_hole row structure period tier ≡ true
unfolding is_hole
late_tier row structure period zero late there = absurd (omega (arith, late))
late_tier row structure period (suc tier) late there = rw there (or_late _ _ (past_test tier (omega (arith, late))))

-- no hole at all
pub none_at_all : (row : Row) (structure : Structure) (period : ℕ) → ((tier : ℕ) → tier ≤ 15 → is_hole row structure period tier ≡ false)
    → ((tier : ℕ) → 16 ≤ tier → has_tier row structure period tier ≡ false) → IsLeastHole row structure period None
none_at_all row structure period inner late tier = by_size (cases_lt tier 16)
  where
    by_size : (tier < 16) ⊎ (16 ≤ tier) → is_hole row structure period tier ≡ false
    by_size (inl small) = inner tier (omega (arith, small))
    by_size (inr large) = no_tier row structure period tier (late tier large)

-- the least tier past the last, where no tier before is a hole
pub late_least : (row : Row) (structure : Structure) (period least : ℕ) → ((tier : ℕ) → tier ≤ 15 → is_hole row structure period tier ≡ false)
    → 16 ≤ least → has_tier row structure period least ≡ true → ((tier : ℕ) → 16 ≤ tier → tier < least → has_tier row structure period tier ≡ false)
    → IsLeastHole row structure period (Some least)
late_least row structure period least inner late there others = (late_tier row structure period least late there, before)
  where
    by_size : (tier : ℕ) → tier < least → (tier < 16) ⊎ (16 ≤ tier) → is_hole row structure period tier ≡ false
    by_size tier below (inl small) = inner tier (omega (arith, small))
    by_size tier below (inr large) = no_tier row structure period tier (others tier large below)

    before : (tier : ℕ) → tier < least → is_hole row structure period tier ≡ false
    before tier below = by_size tier below (cases_lt tier 16)

-- one of the tiers 1 to 15, by the two tiers
inner_test : (n : ℕ) → n ≤ 14 → nat_lt 14 n ≡ false
inner_test n small = grind (arith, nat_tests)

or_none : (a : Bool) → (a || false) ≡ a
or_none true = refl
or_none false = refl

pub inner_is : (row : Row) (structure : Structure) (period tier : ℕ) → tier ≤ 14
    → is_hole row structure period (suc tier) ≡ (has_tier row structure period (suc tier) && not (has_tier row structure period tier))
unfolding is_hole
inner_is row structure period tier small = rw (inner_test tier small, or_none (not (has_tier row structure period tier))) refl

-- going through the tiers from 1 on
pub first_none : (row : Row) (structure : Structure) (period tier : ℕ) → tier < 1 → is_hole row structure period tier ≡ false
unfolding is_hole
first_none row structure period zero below = refl
first_none row structure period (suc tier) below = absurd (omega (arith, below))

pub none_more : (row : Row) (structure : Structure) (period next : ℕ) → ((tier : ℕ) → tier < next → is_hole row structure period tier ≡ false)
    → is_hole row structure period next ≡ false → (tier : ℕ) → tier < next + 1 → is_hole row structure period tier ≡ false
none_more row structure period next before here tier below = by_size (cases_lt tier next)
  where
    by_size : (tier < next) ⊎ (next ≤ tier) → is_hole row structure period tier ≡ false
    by_size (inl small) = before tier small
    by_size (inr large) = let same : tier ≡ next = omega (arith, below, large) in rw same here

-- a tier from 1 to 15, by the tier and the one before it
pub inner_of : (row : Row) (structure : Structure) (period tier : ℕ) → 1 ≤ tier → tier ≤ 15
    → is_hole row structure period tier ≡ (has_tier row structure period tier && not (has_tier row structure period (tier - 1)))
inner_of row structure period zero some small = absurd (omega (arith, some))
inner_of row structure period (suc tier) some small =
    let before : suc tier - 1 ≡ tier = omega arith in
    inner_is row structure period tier (omega (arith, small)) ∙ ap (λ n. has_tier row structure period (suc tier) && not (has_tier row structure period n)) (sym before)

pub there_is : (a b c : Bool) (whole : Bool) → whole ≡ (a && not b) → a ≡ true → c ≡ b → not c ≡ whole
there_is a b c whole is there same = rw (is, there, same) refl

pub not_there : (a b : Bool) (whole : Bool) → whole ≡ (a && not b) → a ≡ false → a ≡ whole
not_there a b whole is none = rw (is, none) refl

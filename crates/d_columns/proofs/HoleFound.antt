-- The least missing tier of a period is there or there is none: the names of tiers grow with their numbers, so that those with a column
-- are few.
use Rattle.std.proofs.Common.{◌≡◌, ◌∙◌, ◌⊎◌, inl, inr, ℕ, zero, suc, ◌+◌, ◌^◌, ◌≤◌, ◌<◌, Bool, true, false, not, ◌&&◌, ◌||◌, Option, None, Some, List, [], length, arith, refl, ap, length-append}
use Rattle.std.proofs.lemmas.Bool.{cases_lt, cases_Bool, lt-ltb}
use Rattle.std.proofs.lemmas.List.{length-map}
use Rattle.std.proofs.lemmas.List.Sums.{get_or-le-sum_by}
use Rattle.std.specs.Char.{to_ascii_lowercase}
use Rattle.std.specs.List.{sum_by}
use Rattle.d_table.specs.Table.{cell_in}
use Rattle.std.proofs.Math.Nat.{pow-le-pow_right}
use Rattle.d_columns.specs.declared.names.Structure.{Structure}
use Rattle.d_columns.specs.declared.names.Part.{Part}
use Rattle.d_columns.specs.Names.{number_text, tier_name}
use Rattle.d_columns.specs.Tiers.{Row, part_cell, is_filled, has_tier, is_hole, IsLeastHole}
use Rattle.d_columns.specs.Past.{PartCell}
use Rattle.d_columns.proofs.DigitFacts.{text_size}
use Rattle.d_columns.proofs.ColumnFacts.{no_tier}
use Rattle.d_columns.proofs.PastFacts.{past_cell_of, past_within, past_says}

power-le : (j k : ℕ) → j ≤ k → 10 ^ j ≤ 10 ^ k
power-le j k below = pow-le-pow_right (omega arith) below

-- the bytes of all names together
abbrev all_bytes : List (List ℕ) → ℕ
all_bytes names = sum_by (λ name. length name) names

-- a name is longer than the number in it
name_size : (structure : Structure) (period tier : ℕ) (part : Part) → length (number_text tier) ≤ length (tier_name structure period tier part)
name_size structure period tier part = simp length-append (omega arith)

-- a tier with a filled cell has a number of few digits
few_digits : (row : Row) (structure : Structure) (period tier : ℕ) (part : Part) → 16 ≤ tier → is_filled (part_cell row structure period tier part) ≡ true
    → length (number_text tier) ≤ all_bytes row.header
few_digits row structure period tier part late filled =
    let there = past_cell_of row structure period tier part late filled in
    let cell : PartCell = record { column = there.0; tier = tier; part = part } in
    let says = past_says row structure period there.0 cell refl there.1 in
    let most = get_or-le-sum_by (λ name. length name) row.header there.0 [] (past_within row structure period cell there.1) in
    omega (arith, name_size structure period tier part, ap length says.name, length-map (cell_in row.header there.0) to_ascii_lowercase)

-- no tier of a greater number is there
late_none : (row : Row) (structure : Structure) (period tier : ℕ) → 16 ≤ tier → 10 ^ all_bytes row.header ≤ tier → has_tier row structure period tier ≡ false
late_none row structure period tier late great = no_tier row structure period tier (λ part. elim (cases_Bool (is_filled (part_cell row structure period tier part))) [
  | inl filled ↦
      let few = power-le (length (number_text tier)) (all_bytes row.header) (few_digits row structure period tier part late filled) in
      absurd (omega (arith, text_size tier))
  | inr empty ↦ empty
])

-- each tier from 16 on counts as missing where it is there
late_hole : (row : Row) (structure : Structure) (period tier : ℕ) → 16 ≤ tier → is_hole row structure period tier ≡ has_tier row structure period tier
unfolding is_hole
late_hole row structure period zero late = absurd (omega arith)
late_hole row structure period (suc tier) late = ap (λ test. has_tier row structure period (suc tier) && (not (has_tier row structure period tier) || test)) (lt-ltb 14 tier (omega arith))
    ∙ always (has_tier row structure period (suc tier)) (not (has_tier row structure period tier))
  where
    always : (a b : Bool) → (a && (b || true)) ≡ a
    always true true = refl
    always true false = refl
    always false b = refl

-- no tier is missing where none of the first ones is
no_late : (row : Row) (structure : Structure) (period : ℕ) → ((tier : ℕ) → tier < 16 + 10 ^ all_bytes row.header → is_hole row structure period tier ≡ false)
    → (tier : ℕ) → is_hole row structure period tier ≡ false
no_late row structure period none tier = elim (cases_lt tier (16 + 10 ^ all_bytes row.header)) [
  | inl early ↦ none tier early
  | inr late ↦ late_hole row structure period tier (omega arith) ∙ late_none row structure period tier (omega arith) (omega arith)
]

-- the least number below a bound at which a test holds, or none
record IsLeast (test : ℕ → Bool) (least : ℕ) : Type 0 where
  holds : test least ≡ true
  before : (n : ℕ) → n < least → test n ≡ false

least_below : (test : ℕ → Bool) (bound : ℕ) → ((least : ℕ) × IsLeast test least) ⊎ ((n : ℕ) → n < bound → test n ≡ false)
least_below test zero = inr (λ n below. absurd (omega arith))
least_below test (suc bound) = by_rest (least_below test bound)
  where
    by_test : ((n : ℕ) → n < bound → test n ≡ false) → (test bound ≡ true) ⊎ (test bound ≡ false) → ((least : ℕ) × IsLeast test least) ⊎ ((n : ℕ) → n < suc bound → test n ≡ false)
    by_test none (inl holds) = inl (bound, record { holds = holds; before = none })
    by_test none (inr fails) = inr (λ n below. by_order n (cases_lt n bound) (omega arith))
      where
        by_order : (n : ℕ) → (n < bound) ⊎ (bound ≤ n) → n ≤ bound → test n ≡ false
        by_order n (inl less) le = none n less
        by_order n (inr more) le = let same : n ≡ bound = omega arith in rw same fails

    by_rest : ((least : ℕ) × IsLeast test least) ⊎ ((n : ℕ) → n < bound → test n ≡ false) → ((least : ℕ) × IsLeast test least) ⊎ ((n : ℕ) → n < suc bound → test n ≡ false)
    by_rest (inl found) = inl found
    by_rest (inr none) = by_test none (cases_Bool (test bound))

pub hole_found : (row : Row) (structure : Structure) (period : ℕ) → (hole : Option ℕ) × IsLeastHole row structure period hole
hole_found row structure period = by_least (least_below (is_hole row structure period) (16 + 10 ^ all_bytes row.header))
  where
    by_least : ((least : ℕ) × IsLeast (is_hole row structure period) least) ⊎ ((tier : ℕ) → tier < 16 + 10 ^ all_bytes row.header → is_hole row structure period tier ≡ false)
        → (hole : Option ℕ) × IsLeastHole row structure period hole
    by_least (inl found) = (Some found.0, (found.1.holds, found.1.before))
    by_least (inr none) = (None, no_late row structure period none)

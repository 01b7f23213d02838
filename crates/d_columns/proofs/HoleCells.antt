-- The column that a hole is told by.
use Rattle.std.proofs.Common.{◌≡◌, ◌∙◌, ℕ, zero, suc, Bool, true, false, ◌&&◌, Option, None, Some, Result, Ok, Err, IfOk, refl, sym, subst, inl, inr}
use Rattle.std.proofs.lemmas.Bool.{cases_Bool}
use Rattle.d_columns.specs.declared.names.Structure.{Structure}
use Rattle.d_columns.specs.declared.names.Part.{Part}
use Rattle.d_columns.specs.declared.names.Part.TheVariants.{Max, Unit, Rate, Adj, Sell}
use Rattle.d_columns.specs.Tiers.{Row, part_column, part_cell, is_filled, has_tier, first_filled, is_hole}
use Rattle.d_columns.specs.Past.{IsPastLastFound}
use Rattle.d_columns.specs.Holes.{IsHoleFound, IsInnerHole}
use Rattle.d_columns.proofs.ColumnFacts.{no_tier}
use Rattle.d_columns.proofs.HoleFacts.{none_at_all, late_least}

-- a filled part of a tier has a column
column_there : (row : Row) (structure : Structure) (period tier : ℕ) (part : Part) → is_filled (part_cell row structure period tier part) ≡ true
    → (column : ℕ) × (part_column row structure period tier part ≡ Some column)
column_there row structure period tier part filled = go (part_column row structure period tier part) refl
  where
    go : (place : Option ℕ) → part_column row structure period tier part ≡ place → (column : ℕ) × (part_column row structure period tier part ≡ Some column)
    go None missing = let empty = rw missing at filled in absurd cc
    go (Some column) found = (column, found)

-- so has the first filled part of a tier that is there
filled_there : (row : Row) (structure : Structure) (period tier : ℕ) → has_tier row structure period tier ≡ true
    → (column : ℕ) × (first_filled row structure period tier ≡ Some column)
unfolding first_filled
filled_there row structure period tier there = elim (cases_Bool (filled Max)) [
  | inl here ↦ let is : first_filled row structure period tier ≡ part_column row structure period tier Max = rw here refl in found Max here is
  | inr max ↦ elim (cases_Bool (filled Unit)) [
    | inl here ↦ let is : first_filled row structure period tier ≡ part_column row structure period tier Unit = rw (max, here) refl in found Unit here is
    | inr unit ↦ elim (cases_Bool (filled Rate)) [
      | inl here ↦ let is : first_filled row structure period tier ≡ part_column row structure period tier Rate = rw (max, unit, here) refl in found Rate here is
      | inr rate ↦ elim (cases_Bool (filled Adj)) [
        | inl here ↦ let is : first_filled row structure period tier ≡ part_column row structure period tier Adj = rw (max, unit, rate, here) refl in found Adj here is
        | inr adj ↦ elim (cases_Bool (filled Sell)) [
          | inl here ↦
              let is : first_filled row structure period tier ≡ part_column row structure period tier Sell = rw (max, unit, rate, adj, here) refl in
              found Sell here is
          | inr sell ↦
              let none = no_tier row structure period tier (λ part. elim part as (λ part. filled part ≡ false) [
                | Max ↦ max
                | Unit ↦ unit
                | Rate ↦ rate
                | Adj ↦ adj
                | Sell ↦ sell
              ]) in
              absurd (let bad : true ≡ false = sym there ∙ none in cc)
        ]
      ]
    ]
  ]
]
  where
    filled : Part → Bool
    filled part = is_filled (part_cell row structure period tier part)

    found : (part : Part) → is_filled (part_cell row structure period tier part) ≡ true
        → first_filled row structure period tier ≡ part_column row structure period tier part → (column : ℕ) × (first_filled row structure period tier ≡ Some column)
    found part here is = let at = column_there row structure period tier part here in (at.0, is ∙ at.1)

-- a hole is a tier that is there
both_first : (a b : Bool) → (a && b) ≡ true → a ≡ true
both_first true b both = refl
both_first false b both = both

hole_there : (row : Row) (structure : Structure) (period tier : ℕ) → is_hole row structure period tier ≡ true → has_tier row structure period tier ≡ true
unfolding is_hole
hole_there row structure period zero hole = absurd cc
hole_there row structure period (suc tier) hole = both_first _ _ hole

-- one of the tiers 1 to 15
pub inner_found : (row : Row) (structure : Structure) (period tier : ℕ) (column : Option ℕ) → IsInnerHole row structure period (Some tier)
    → column ≡ first_filled row structure period tier → IsHoleFound row structure period column
inner_found row structure period tier column inner is =
    let there = filled_there row structure period tier (hole_there row structure period tier inner.1.0) in
    subst (λ (o : Option ℕ). IsHoleFound row structure period o) (sym (is ∙ there.1)) (tier, inner.1, there.1)

-- or one past those, or none
late_found : (row : Row) (structure : Structure) (period : ℕ) (column : Option ℕ) → IsInnerHole row structure period None
    → IsPastLastFound row structure period column → IsHoleFound row structure period column
late_found row structure period None inner late = none_at_all row structure period inner late
late_found row structure period (Some column) inner late = (late.0, late_least row structure period late.0 inner late.1 late.2 late.3, late.4)

pub late_read : {E : Type 0} (row : Row) (structure : Structure) (period : ℕ) (result : Result (Option ℕ) E) → IsInnerHole row structure period None
    → IfOk result (IsPastLastFound row structure period) → IfOk result (IsHoleFound row structure period)
late_read row structure period (Ok column) inner late = late_found row structure period column inner late
late_read row structure period (Err fault) inner late = tt

-- The prices of coincident demand.
use Rattle.std.proofs.Common.{◌≡◌, ◌∙◌, ◌^◌, ℕ, ℤ, pos, false, not, List, [], ◌∷◌, Option, refl, sym, ap, of_z, arith, inl, inr}
use Rattle.std.specs.Int.{w128}
use Rattle.std.specs.Ordering.{int_eq}
use Rattle.std.proofs.lemmas.Int.{ints}
use Rattle.std.proofs.lemmas.Bool.{cases_Bool}
use Rattle.std.proofs.lemmas.Bool.Decides.{Decides-int_eq}
use Rattle.d_num.specs.Amount.{IsWithin}
use Rattle.d_urdb.specs.declared.coincident_rule.CoincidentRule.{CoincidentRule}
use Rattle.d_urdb.specs.declared.fault.Refused.{Refused}
use Rattle.d_columns.specs.declared.names.Part.{Part}
use Rattle.d_columns.specs.declared.names.Structure.TheVariants.{Coincident}
use Rattle.d_urdb.specs.Adjustments.{each_tier, part_refusal}
use Rattle.d_urdb.specs.Checks.{Passes, Refuses}
use Rattle.d_urdb.specs.Coincident.{rule_refusals}
use Rattle.d_urdb.specs.Numbers.{CellReader, IsCellReader}
use Rattle.d_urdb.specs.Periods.{part_price, price_refusal}
use Rattle.d_urdb.specs.Refusals.{each, refusal}
use Rattle.d_columns.specs.Tiers.{Row, part_column}
use Rattle.d_urdb.proofs.CheckFacts.{when_passes, when_refuses, refusal_same}
use Rattle.d_urdb.specs.declared.cause.Cause.TheVariants as cause

-- the refusals of a price that can't be read, and of one that isn't 0
abbrev pub by_number : Row → ℕ → ℕ → Part → CellReader → List (Option Refused)
by_number row period tier part reader = price_refusal reader row Coincident period tier part ∷ []

abbrev pub by_price : Row → ℕ → ℕ → Part → CellReader → List (Option Refused)
by_price row period tier part reader = part_refusal reader row period tier part ∷ []

-- those of a tier, of a period and of all periods by one of the rules
abbrev pub by_tier : CoincidentRule → Row → ℕ → CellReader → ℕ → List (Option Refused)
by_tier rule row period reader = rule_refusals rule reader row period

abbrev pub by_period : CoincidentRule → Row → CellReader → ℕ → List (Option Refused)
by_period rule row reader period = each 16 (by_tier rule row period reader)

abbrev pub by_rule : CoincidentRule → Row → CellReader → List (Option Refused)
by_rule rule row reader = each_tier (rule_refusals rule reader row)

-- the price in a part of a tier, whichever way the cells are read
abbrev pub IsPrice : Row → ℕ → ℕ → Part → ℤ → Type 0
IsPrice row period tier part price = (reader : CellReader) → IsCellReader reader → price ≡ part_price reader row Coincident period tier part

-- a price is 0 where its bits are
zero_bits : (units price : ℤ) → units ≡ price → IsWithin (10 ^ 22) units → of_z w128 units ≡ 0 → price ≡ pos 0
zero_bits units price same within zero = sym same ∙ omega (arith, ints)

-- a price that is 0, and one that isn't
pub price_passes : (row : Row) (period tier : ℕ) (part : Part) (units price : ℤ) → IsPrice row period tier part price → units ≡ price
    → IsWithin (10 ^ 22) units → of_z w128 units ≡ 0 → Passes (by_price row period tier part)
price_passes row period tier part units price is same within zero reader are =
    let none : part_price reader row Coincident period tier part ≡ pos 0 = sym (is reader are) ∙ zero_bits units price same within zero in
    when_passes _ _ (ap not ((Decides-int_eq (part_price reader row Coincident period tier part) (pos 0)).1 none))

pub price_refuses : (row : Row) (period tier : ℕ) (part : Part) (units price : ℤ) (column : Option ℕ) (refused : Refused)
    → IsPrice row period tier part price → units ≡ price → (of_z w128 units ≡ 0 → ⊥) → refused ≡ refusal row.header cause.Coincident column 0
    → column ≡ part_column row Coincident period tier part → Refuses (by_price row period tier part) refused
price_refuses row period tier part units price column refused is same other refusal_is at reader are =
    let here = part_price reader row Coincident period tier part in
    let differs : int_eq here (pos 0) ≡ false = elim (cases_Bool (int_eq here (pos 0))) [
      | inl zero ↦ absurd (other (ap (of_z w128) (same ∙ is reader are ∙ (Decides-int_eq here (pos 0)).0 zero)))
      | inr differs ↦ differs
    ] in
    when_refuses _ _ refused (ap not differs) (refusal_same _ cause.Coincident _ _ 0 0 refused refusal_is at refl)

-- What a check of a record says of its refusals, whichever way the cells are read.
use Rattle.std.specs.Prelude.{◌≡◌, ℕ, ⊤, List, [], ◌∷◌, Option, None, Some, Result, Ok, Err}
use Rattle.d_urdb.specs.declared.fault.Refused.{Refused}
use Rattle.d_urdb.specs.declared.fault.RecordFault.{RecordFault}
use Rattle.d_urdb.specs.declared.fault.RecordFault.TheVariants as fault
use Rattle.d_columns.specs.declared.names.Structure.{Structure}
use Rattle.d_urdb.specs.declared.tier_rule.TierRule.{TierRule}
use Rattle.d_urdb.specs.declared.tier_rule.TierRule.TheVariants.{Numbers, Units, Order, Sells, Falls}
use Rattle.d_urdb.specs.Numbers.{CellReader, IsCellReader}
use Rattle.d_urdb.specs.Refusals.{first_of, refusal}
use Rattle.d_columns.specs.Tiers.{Row, IsLeastHole, first_filled}
use Rattle.d_urdb.specs.Periods.{number_refusals, unit_refusal, order_refusal, sell_refusal, fall_refusal}
use Rattle.d_urdb.specs.declared.cause.Cause.TheVariants as cause

-- none of these refusals comes
abbrev pub Passes : (CellReader → List (Option Refused)) → Type 0
Passes refusals = (reader : CellReader) → IsCellReader reader → first_of (refusals reader) ≡ None

-- this is the first of these refusals that comes
abbrev pub Refuses : (CellReader → List (Option Refused)) → Refused → Type 0
Refuses refusals refused = (reader : CellReader) → IsCellReader reader → first_of (refusals reader) ≡ Some refused

-- a check goes through exactly where none of these refusals comes, and else answers the first
abbrev pub Checks : {A : Type 0} → (CellReader → List (Option Refused)) → Result A Refused → Type 0
Checks refusals (Ok value) = Passes refusals
Checks refusals (Err refused) = Refuses refusals refused

-- the same of a check that may want memory
abbrev pub ChecksOrNot : {A : Type 0} → (CellReader → List (Option Refused)) → Result A RecordFault → Type 0
ChecksOrNot refusals (Ok value) = Passes refusals
ChecksOrNot refusals (Err (fault.Refused refused)) = Refuses refusals refused
ChecksOrNot refusals (Err fault.Memory) = ⊤

-- a hole is refused by its tier's first filled cell
abbrev pub IsHoleCheck : Row → Structure → ℕ → Result ⊤ RecordFault → Type 0
IsHoleCheck row structure period (Ok value) = IsLeastHole row structure period None
IsHoleCheck row structure period (Err (fault.Refused refused)) =
    (tier : ℕ) × IsLeastHole row structure period (Some tier) × (refused ≡ refusal row.header cause.TierHole (first_filled row structure period tier) 0)
IsHoleCheck row structure period (Err fault.Memory) = ⊤

-- the refusals of a tier by one of the rules
abbrev pub tier_refusals : TierRule → CellReader → Row → Structure → ℕ → ℕ → List (Option Refused)
tier_refusals Numbers reader row structure period tier = number_refusals reader row structure period tier
tier_refusals Units reader row structure period tier = unit_refusal row structure period tier ∷ []
tier_refusals Order reader row structure period tier = order_refusal reader row structure period tier ∷ []
tier_refusals Sells reader row structure period tier = sell_refusal reader row structure period tier ∷ []
tier_refusals Falls reader row structure period tier = fall_refusal reader row structure period tier ∷ []

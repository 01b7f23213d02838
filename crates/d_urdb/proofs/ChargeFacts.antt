-- The charges of a row.
use Rattle.std.proofs.Common.{◌≡◌, ◌∙◌, ℕ, ℤ, pos, ◌*ℤ◌, ◌*◌, ◌^◌, of_z, Bool, true, false, not, ◌&&◌, List, [], ◌∷◌, Option, None, Some, unwrap_or, if◌then◌else◌, refl, sym, ap, arith, inl, inr}
use Rattle.std.proofs.lemmas.Bool.{cases_Bool}
use Rattle.std.proofs.lemmas.Bool.Decides.{Decides-int_eq}
use Rattle.std.specs.Ordering.{int_eq}
use Rattle.std.specs.Int.{w128}
use Rattle.std.proofs.lemmas.Int.{ints}
use Rattle.d_num.specs.Amount.{IsWithin}
use Rattle.d_table.specs.Table.{column_of}
use Rattle.d_tariff.specs.declared.charge.Charge.{Charge}
use Rattle.d_tariff.specs.declared.charge.ChargeUnit.{ChargeUnit}
use Rattle.d_tariff.specs.declared.charge.ChargeUnit.TheVariants.{Day, Month, Year}
use Rattle.d_urdb.specs.declared.cause.Cause.{Cause}
use Rattle.d_urdb.specs.declared.fault.Refused.{Refused}
use Rattle.d_urdb.specs.Numbers.{CellReader, IsCellReader}
use Rattle.d_urdb.specs.Refusals.{refusal, when}
use Rattle.d_columns.specs.Tiers.{Row}
use Rattle.d_urdb.specs.NamedNumbers.{name_refusal}
use Rattle.d_urdb.specs.Charges.{charge_limit, amount_in, is_charged, unit_at, is_year, unit_refusal, charge_refusals, zero_refusals, yearly_refusal, minimum_refusals, charge_of, minimum_of, minimum_name, minimum_unit_name}
use Rattle.d_urdb.specs.Checks.{Passes, Refuses}
use Rattle.d_urdb.proofs.CheckFacts.{when_passes, when_refuses, refusal_same}
use Rattle.d_urdb.proofs.RefusalOrder.{both_pass, first_refuses, then_refuses}
use Rattle.d_urdb.specs.declared.cause.Cause.TheVariants as cause

-- the amount in the column of that name, whichever way the cells are read
abbrev pub IsAmount : Row → List ℕ → ℤ → Type 0
IsAmount row name amount = (reader : CellReader) → IsCellReader reader → amount ≡ amount_in reader row name

-- whether an amount is another than 0
is_other : (reader : CellReader) (row : Row) (name : List ℕ) (amount : ℤ) → amount ≡ amount_in reader row name → (amount ≡ pos 0 → ⊥)
    → is_charged reader row name ≡ true
is_other reader row name amount is other = elim (cases_Bool (int_eq (amount_in reader row name) (pos 0))) [
  | inl zero ↦ absurd (other (is ∙ (Decides-int_eq (amount_in reader row name) (pos 0)).0 zero))
  | inr differs ↦ ap not differs
]

is_zero : (reader : CellReader) (row : Row) (name : List ℕ) (amount : ℤ) → amount ≡ amount_in reader row name → amount ≡ pos 0
    → is_charged reader row name ≡ false
is_zero reader row name amount is zero = ap not ((Decides-int_eq (amount_in reader row name) (pos 0)).1 (sym is ∙ zero))

-- an amount is 0 where its bits are
pub zero_bits : (amount : ℤ) → IsWithin (charge_limit * 10 ^ 18) amount → of_z w128 amount ≡ 0 → amount ≡ pos 0
zero_bits amount within zero = omega (arith, ints)

pub other_bits : (amount : ℤ) → (of_z w128 amount ≡ 0 → ⊥) → amount ≡ pos 0 → ⊥
other_bits amount other zero = other (ap (of_z w128) zero)

pub zero_money : (units amount : ℤ) → units ≡ amount → IsWithin (10 ^ 37) units → of_z w128 units ≡ 0 → amount ≡ pos 0
zero_money units amount same within zero = sym same ∙ omega (arith, ints)

pub other_money : (units amount : ℤ) → units ≡ amount → (of_z w128 units ≡ 0 → ⊥) → amount ≡ pos 0 → ⊥
other_money units amount same other zero = other (ap (of_z w128) (same ∙ zero))

-- the refusals of an amount, of its unit, and of one that isn't 0
abbrev pub by_number : Row → List ℕ → CellReader → List (Option Refused)
by_number row name reader = name_refusal reader row charge_limit name ∷ []

abbrev by_unit : Row → List ℕ → List ℕ → CellReader → List (Option Refused)
by_unit row name unit_name reader = unit_refusal reader row name unit_name ∷ []

abbrev by_zero : Row → List ℕ → Cause → CellReader → List (Option Refused)
by_zero row name cause_ reader = when (is_charged reader row name) (refusal row.header cause_ (column_of name row.header) 0) ∷ []

-- an amount that has to be 0
pub zero_unread : (row : Row) (name : List ℕ) (cause_ : Cause) (refused : Refused) → Refuses (by_number row name) refused
    → Refuses (λ reader. zero_refusals reader row name cause_) refused
zero_unread row name cause_ refused here = first_refuses (by_number row name) (by_zero row name cause_) refused here

pub zero_refuses : (row : Row) (name : List ℕ) (cause_ : Cause) (amount : ℤ) (column : Option ℕ) (refused : Refused) → Passes (by_number row name)
    → IsAmount row name amount → (amount ≡ pos 0 → ⊥) → refused ≡ refusal row.header cause_ column 0 → column ≡ column_of name row.header
    → Refuses (λ reader. zero_refusals reader row name cause_) refused
zero_refuses row name cause_ amount column refused read is other same at =
    then_refuses (by_number row name) (by_zero row name cause_) refused read
    (λ reader are. when_refuses _ _ refused (is_other reader row name amount (is reader are) other) (refusal_same _ cause_ _ _ 0 0 refused same at refl))

pub zero_passes : (row : Row) (name : List ℕ) (cause_ : Cause) (amount : ℤ) → Passes (by_number row name) → IsAmount row name amount → amount ≡ pos 0
    → Passes (λ reader. zero_refusals reader row name cause_)
zero_passes row name cause_ amount read is zero =
    both_pass (by_number row name) (by_zero row name cause_) read
    (λ reader are. when_passes _ _ (is_zero reader row name amount (is reader are) zero))

-- a charge
pub charge_unread : (row : Row) (name unit_name : List ℕ) (refused : Refused) → Refuses (by_number row name) refused
    → Refuses (λ reader. charge_refusals reader row name unit_name) refused
charge_unread row name unit_name refused here = first_refuses (by_number row name) (by_unit row name unit_name) refused here

pub charge_none : (row : Row) (name unit_name : List ℕ) (amount : ℤ) → Passes (by_number row name) → IsAmount row name amount → amount ≡ pos 0
    → Passes (λ reader. charge_refusals reader row name unit_name)
charge_none row name unit_name amount read is zero =
    both_pass (by_number row name) (by_unit row name unit_name) read
    (λ reader are. when_passes _ _ (rw (is_zero reader row name amount (is reader are) zero) refl))

pub charge_passes : (row : Row) (name unit_name : List ℕ) (unit : ChargeUnit) → Passes (by_number row name) → unit_at row unit_name ≡ Some unit
    → Passes (λ reader. charge_refusals reader row name unit_name)
charge_passes row name unit_name unit read known =
    both_pass (by_number row name) (by_unit row name unit_name) read (λ reader are. when_passes _ _ (rw known (known_unit (is_charged reader row name))))
  where
    known_unit : (charged : Bool) → (charged && false) ≡ false
    known_unit true = refl
    known_unit false = refl

pub charge_refuses : (row : Row) (name unit_name : List ℕ) (amount : ℤ) (column : Option ℕ) (refused : Refused) → Passes (by_number row name)
    → IsAmount row name amount → (amount ≡ pos 0 → ⊥) → unit_at row unit_name ≡ None → refused ≡ refusal row.header cause.ChargeUnit column 0
    → column ≡ column_of unit_name row.header → Refuses (λ reader. charge_refusals reader row name unit_name) refused
charge_refuses row name unit_name amount column refused read is other none same at =
    then_refuses (by_number row name) (by_unit row name unit_name) refused read
    (λ reader are. when_refuses _ _ refused (rw (is_other reader row name amount (is reader are) other, none) refl)
    (refusal_same _ cause.ChargeUnit _ _ 0 0 refused same at refl))

-- what a charge tells of its amount and its unit
pub tells_none : (reader : CellReader) (row : Row) (name unit_name : List ℕ) (charge : Charge) → charge ≡ charge_of reader row name unit_name
    → charge.amount ≡ pos 0 → is_charged reader row name ≡ false
tells_none reader row name unit_name charge is zero = elim (cases_Bool (is_charged reader row name)) [
  | inl charged ↦
      let made : charge.amount ≡ amount_in reader row name *ℤ pos 1000 = ap (λ (c : Charge). c.amount) is ∙ rw charged refl in
      let none : amount_in reader row name ≡ pos 0 = omega (arith, ints, made, zero) in
      is_zero reader row name (amount_in reader row name) refl none
  | inr none ↦ none
]

pub tells_some : (reader : CellReader) (row : Row) (name unit_name : List ℕ) (charge : Charge) → charge ≡ charge_of reader row name unit_name
    → (charge.amount ≡ pos 0 → ⊥) → is_charged reader row name ≡ true
tells_some reader row name unit_name charge is other = elim (cases_Bool (is_charged reader row name)) [
  | inl charged ↦ charged
  | inr none ↦ absurd (other (ap (λ (c : Charge). c.amount) is ∙ rw none refl))
]

pub tells_unit : (reader : CellReader) (row : Row) (name unit_name : List ℕ) (charge : Charge) → charge ≡ charge_of reader row name unit_name
    → is_charged reader row name ≡ true → charge.unit ≡ unwrap_or (unit_at row unit_name) Month
tells_unit reader row name unit_name charge is charged = ap (λ (c : Charge). c.unit) is ∙ rw charged refl

pub is_yearly : (unit : Option ChargeUnit) → unwrap_or unit Month ≡ Year → is_year unit ≡ true
is_yearly None same = absurd (cc)
is_yearly (Some Day) same = absurd (cc)
is_yearly (Some Month) same = absurd (cc)
is_yearly (Some Year) same = refl

not_yearly : (unit : Option ChargeUnit) → (unwrap_or unit Month ≡ Year → ⊥) → is_year unit ≡ false
not_yearly None other = refl
not_yearly (Some Day) other = refl
not_yearly (Some Month) other = refl
not_yearly (Some Year) other = absurd (other refl)

-- the refusals of a minimum
abbrev pub by_charge : Row → CellReader → List (Option Refused)
by_charge row reader = charge_refusals reader row minimum_name minimum_unit_name

abbrev by_year : Row → CellReader → List (Option Refused)
by_year row reader = yearly_refusal reader row ∷ []

-- the charge that the minimum is, whichever way the cells are read
abbrev pub IsMinimumCharge : Row → Charge → Type 0
IsMinimumCharge row charge = (reader : CellReader) → IsCellReader reader → charge ≡ charge_of reader row minimum_name minimum_unit_name

pub minimum_unread : (row : Row) (refused : Refused) → Refuses (by_charge row) refused → Refuses (λ reader. minimum_refusals reader row) refused
unfolding minimum_refusals
minimum_unread row refused here = first_refuses (by_charge row) (by_year row) refused here

pub minimum_none : (row : Row) (charge : Charge) → Passes (by_charge row) → IsMinimumCharge row charge → charge.amount ≡ pos 0
    → Passes (λ reader. minimum_refusals reader row)
unfolding minimum_refusals
minimum_none row charge read is zero =
    both_pass (by_charge row) (by_year row) read
    (λ reader are. when_passes _ _ (rw (tells_none reader row minimum_name minimum_unit_name charge (is reader are) zero) refl))

pub minimum_passes : (row : Row) (charge : Charge) → Passes (by_charge row) → IsMinimumCharge row charge → (charge.amount ≡ pos 0 → ⊥)
    → (charge.unit ≡ Year → ⊥) → Passes (λ reader. minimum_refusals reader row)
unfolding minimum_refusals
minimum_passes row charge read is other by_month =
    both_pass (by_charge row) (by_year row) read (λ reader are.
    let charged = tells_some reader row minimum_name minimum_unit_name charge (is reader are) other in
    let unit = tells_unit reader row minimum_name minimum_unit_name charge (is reader are) charged in
    when_passes _ _ (rw (charged, not_yearly (unit_at row minimum_unit_name) (λ year. by_month (unit ∙ year))) refl))

pub minimum_refuses : (row : Row) (charge : Charge) (column : Option ℕ) (refused : Refused) → Passes (by_charge row) → IsMinimumCharge row charge
    → (charge.amount ≡ pos 0 → ⊥) → charge.unit ≡ Year → refused ≡ refusal row.header cause.AnnualMinimum column 0 → column ≡ column_of minimum_unit_name row.header
    → Refuses (λ reader. minimum_refusals reader row) refused
unfolding minimum_refusals
minimum_refuses row charge column refused read is other year same at =
    then_refuses (by_charge row) (by_year row) refused read (λ reader are.
    let charged = tells_some reader row minimum_name minimum_unit_name charge (is reader are) other in
    let unit = tells_unit reader row minimum_name minimum_unit_name charge (is reader are) charged in
    when_refuses _ _ refused (rw (charged, is_yearly (unit_at row minimum_unit_name) (sym unit ∙ year)) refl) (refusal_same _ cause.AnnualMinimum _ _ 0 0 refused same at refl))

-- the minimum's value
pub minimum_nothing : (reader : CellReader) (row : Row) (charge : Charge) → charge ≡ charge_of reader row minimum_name minimum_unit_name
    → charge.amount ≡ pos 0 → None ≡ minimum_of reader row
unfolding minimum_of
minimum_nothing reader row charge is zero = rw (tells_none reader row minimum_name minimum_unit_name charge is zero) refl

pub minimum_value : (reader : CellReader) (row : Row) (charge : Charge) → charge ≡ charge_of reader row minimum_name minimum_unit_name
    → (charge.amount ≡ pos 0 → ⊥) → Some charge ≡ minimum_of reader row
unfolding minimum_of
minimum_value reader row charge is other =
    let charged = tells_some reader row minimum_name minimum_unit_name charge is other in
    ap (λ c. Some c) is ∙ sym (pick (is_charged reader row minimum_name) (Some (charge_of reader row minimum_name minimum_unit_name)) charged)
  where
    pick : (test : Bool) (some : Option Charge) → test ≡ true → (if test then some else None) ≡ some
    pick test some holds = rw holds refl

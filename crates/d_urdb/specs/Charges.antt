-- Charges that don't depend on energy or demand. The fields and units are the rate database's; which are refused, and the limits, are ours.
use Rattle.std.specs.Prelude.{ℕ, ◌^◌, ℤ, pos, ◌*ℤ◌, Bool, true, false, not, ◌&&◌, List, [], ◌∷◌, ◌++◌, bytes_eq, codes, Option, None, Some, unwrap_or, if◌then◌else◌}
use Rattle.std.specs.Option.{is_some}
use Rattle.std.specs.Ordering.{int_eq}
use Rattle.d_table.specs.Table.{column_of}
use Rattle.d_tariff.specs.declared.charge.Charge.{Charge}
use Rattle.d_tariff.specs.declared.charge.ChargeUnit.{ChargeUnit}
use Rattle.d_tariff.specs.declared.charge.ChargeUnit.TheVariants.{Day, Month, Year}
use Rattle.d_urdb.specs.declared.cause.Cause.{Cause}
use Rattle.d_urdb.specs.declared.fault.Refused.{Refused}
use Rattle.d_urdb.specs.NamedNumbers.{name_refusal, named_number}
use Rattle.d_urdb.specs.Numbers.{CellReader}
use Rattle.d_urdb.specs.Refusals.{refusal, when}
use Rattle.d_columns.specs.Tiers.{Row, named_cell, is_filled}
use Rattle.d_urdb.specs.declared.cause.Cause.TheVariants as cause

-- the most USD that a charge may be in size
abbrev pub charge_limit : ℕ
charge_limit = 10 ^ 9

-- the column of the fixed charge
abbrev pub fixed_name : List ℕ
fixed_name = codes "fixedchargefirstmeter"

-- the column of the fixed charge's unit
abbrev pub fixed_unit_name : List ℕ
fixed_unit_name = codes "fixedchargeunits"

-- the column of the minimum
abbrev pub minimum_name : List ℕ
minimum_name = codes "mincharge"

-- the column of the minimum's unit
abbrev pub minimum_unit_name : List ℕ
minimum_unit_name = codes "minchargeunits"

-- the column of the minimum of a year's bills
abbrev pub annual_name : List ℕ
annual_name = codes "annualmincharge"

-- the unit that a text says; none says the month
unfoldable pub unit_in : List ℕ → Option ChargeUnit
unit_in text =
    if not (is_filled text) then Some Month
    else if bytes_eq text (codes "$/day") then Some Day
    else if bytes_eq text (codes "$/month") then Some Month
    else if bytes_eq text (codes "$/year") then Some Year
    else None

-- whether the unit is the year
abbrev pub is_year : Option ChargeUnit → Bool
is_year (Some Year) = true
is_year unit = false

-- the amount in the column of that name, in units of 10^-18 USD
abbrev pub amount_in : CellReader → Row → List ℕ → ℤ
amount_in reader row name = named_number reader row charge_limit name

-- whether something is charged
abbrev pub is_charged : CellReader → Row → List ℕ → Bool
is_charged reader row name = not (int_eq (amount_in reader row name) (pos 0))

-- the unit in the column of that name
abbrev pub unit_at : Row → List ℕ → Option ChargeUnit
unit_at row unit_name = unit_in (named_cell row unit_name)

-- 20: the unit of a charge other than 0 is none
abbrev pub unit_refusal : CellReader → Row → List ℕ → List ℕ → Option Refused
unit_refusal reader row name unit_name =
    when (is_charged reader row name && not (is_some (unit_at row unit_name))) (refusal row.header cause.ChargeUnit (column_of unit_name row.header) 0)

-- the amount and the unit of a charge
abbrev pub charge_refusals : CellReader → Row → List ℕ → List ℕ → List (Option Refused)
charge_refusals reader row name unit_name =
    name_refusal reader row charge_limit name ∷ unit_refusal reader row name unit_name ∷ []

-- 18: a minimum by the year isn't settled within a month
abbrev pub yearly_refusal : CellReader → Row → Option Refused
yearly_refusal reader row =
    when (is_charged reader row minimum_name && is_year (unit_at row minimum_unit_name))
    (refusal row.header cause.AnnualMinimum (column_of minimum_unit_name row.header) 0)

-- an amount that has to be 0: it can't be read, or is another, which is refused for this cause
abbrev pub zero_refusals : CellReader → Row → List ℕ → Cause → List (Option Refused)
zero_refusals reader row name cause_ =
    name_refusal reader row charge_limit name
    ∷ when (is_charged reader row name) (refusal row.header cause_ (column_of name row.header) 0)
    ∷ []

-- the minimum's refusals, in order
unfoldable pub minimum_refusals : CellReader → Row → List (Option Refused)
minimum_refusals reader row =
    charge_refusals reader row minimum_name minimum_unit_name ++ yearly_refusal reader row ∷ []

-- a charge, in units of 10^-21 USD; one of 0 is by the month
abbrev pub charge_of : CellReader → Row → List ℕ → List ℕ → Charge
charge_of reader row name unit_name =
    if is_charged reader row name
    then record { amount = amount_in reader row name *ℤ pos 1000; unit = unwrap_or (unit_at row unit_name) Month }
    else record { amount = pos 0; unit = Month }

-- the fixed charge
unfoldable pub fixed_of : CellReader → Row → Charge
fixed_of reader row = charge_of reader row fixed_name fixed_unit_name

-- the minimum; none where it is 0
unfoldable pub minimum_of : CellReader → Row → Option Charge
minimum_of reader row =
    if is_charged reader row minimum_name then Some (charge_of reader row minimum_name minimum_unit_name) else None

-- What a record may say that isn't billed: coincident demand, reactive power and fuel adjustments. Each is refused where it isn't 0; that,
-- and the order, are our own rules.
use Rattle.std.specs.Prelude.{ℕ, pos, not, List, [], ◌∷◌, ◌++◌, codes, Option}
use Rattle.std.specs.Ordering.{int_eq}
use Rattle.d_urdb.specs.declared.fault.Refused.{Refused}
use Rattle.d_columns.specs.declared.month_list.MonthList.TheVariants.{FuelAdjustments}
use Rattle.d_columns.specs.declared.names.Part.{Part}
use Rattle.d_columns.specs.declared.names.Part.TheVariants.{Rate, Adj}
use Rattle.d_columns.specs.declared.names.Structure.TheVariants.{Coincident}
use Rattle.d_urdb.specs.Months.{item_cell, item_column, item_refusal, list_refusal}
use Rattle.d_urdb.specs.Numbers.{CellReader}
use Rattle.d_urdb.specs.Periods.{price_limit, part_price, price_in, price_refusal}
use Rattle.d_urdb.specs.Refusals.{each, refusal, when}
use Rattle.d_columns.specs.Tiers.{Row, part_column}
use Rattle.d_urdb.specs.declared.cause.Cause.TheVariants as cause

-- for each of the periods 0 to 35, and of their tiers 0 to 15
abbrev pub each_tier : (ℕ → ℕ → List (Option Refused)) → List (Option Refused)
each_tier list = each 36 (λ period. each 16 (list period))

-- 4: a price of coincident demand can't be read
abbrev pub coincident_number_refusals : CellReader → Row → ℕ → ℕ → List (Option Refused)
coincident_number_refusals reader row period tier =
    price_refusal reader row Coincident period tier Rate ∷ price_refusal reader row Coincident period tier Adj ∷ []

-- 16: a price of coincident demand isn't 0
abbrev pub part_refusal : CellReader → Row → ℕ → ℕ → Part → Option Refused
part_refusal reader row period tier part =
    when (not (int_eq (part_price reader row Coincident period tier part) (pos 0)))
    (refusal row.header cause.Coincident (part_column row Coincident period tier part) 0)

-- 16: one of the prices of a tier of coincident demand isn't 0
abbrev pub coincident_price_refusals : CellReader → Row → ℕ → ℕ → List (Option Refused)
coincident_price_refusals reader row period tier =
    part_refusal reader row period tier Rate ∷ part_refusal reader row period tier Adj ∷ []

-- all refusals of coincident demand, in order
unfoldable pub coincident_refusals : CellReader → Row → List (Option Refused)
coincident_refusals reader row =
    each_tier (coincident_number_refusals reader row) ++ each_tier (coincident_price_refusals reader row)

-- the column of the charge for reactive power, which has to be 0
abbrev pub reactive_name : List ℕ
reactive_name = codes "demandreactivepowercharge"

-- 19: something is added for fuel
abbrev pub fuel_refusal : CellReader → Row → ℕ → Option Refused
fuel_refusal reader row month =
    when (not (int_eq (price_in reader (item_cell reader row FuelAdjustments month)) (pos 0)))
    (refusal row.header cause.FuelAdjustment (item_column row FuelAdjustments month) 0)

-- all refusals of fuel adjustments, in order
unfoldable pub fuel_refusals : CellReader → Row → List (Option Refused)
fuel_refusals reader row =
    (list_refusal reader row FuelAdjustments ∷ [])
    ++ (each 12 (λ month. item_refusal reader row FuelAdjustments price_limit month ∷ [])
    ++ each 12 (λ month. fuel_refusal reader row month ∷ []))

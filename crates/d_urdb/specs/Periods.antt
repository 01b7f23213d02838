-- The periods of a record's structures: why one is refused, and what its tiers are.
use Rattle.std.specs.Prelude.{ℕ, zero, suc, Bool, false, not, ◌&&◌, ◌||◌, ℤ, pos, ◌+ℤ◌, int_lt, List, [], ◌∷◌, ◌++◌, bytes_eq, codes, Option, None, Some, option_map, unwrap_or, true, Result, Ok, Err, map, find, if◌then◌else◌}
use Rattle.std.specs.List.{range_with_len}
use Rattle.std.specs.Option.{option_or}
use Rattle.std.specs.Ordering.{int_eq}
use Rattle.std.specs.Str.{str_to_ascii_lowercase}
use Rattle.d_text.specs.declared.decimal.DecimalFault.{DecimalFault}
use Rattle.d_tier.specs.declared.tier.Tier.{Tier}
use Rattle.d_tier.specs.Tables.{open_tier, with_tier}
use Rattle.d_tariff.specs.declared.period.Period.{Period}
use Rattle.d_urdb.specs.declared.fault.Refused.{Refused}
use Rattle.d_columns.specs.declared.names.Structure.{Structure}
use Rattle.d_columns.specs.declared.names.Structure.TheVariants.{Energy, Demand, FlatDemand, Coincident}
use Rattle.d_columns.specs.declared.names.Part.{Part}
use Rattle.d_columns.specs.declared.names.Part.TheVariants.{Max, Unit, Rate, Adj, Sell}
use Rattle.d_urdb.specs.Numbers.{CellReader}
use Rattle.d_urdb.specs.Refusals.{each, refusal, when, detail_of}
use Rattle.d_columns.specs.Tiers.{Row, has_tier, part_cell, part_column, first_filled, is_filled}
use Rattle.d_urdb.specs.declared.cause.Cause.TheVariants as cause

-- the most USD per kWh or kW that a cell may say
abbrev pub price_limit : ℕ
price_limit = 1000

-- a number that was read; 0 where there was a fault
abbrev pub number_or_0 : Result ℤ DecimalFault → ℤ
number_or_0 (Ok value) = value
number_or_0 (Err fault) = pos 0

-- an end that was read; None where there is none
abbrev pub end_or_none : Result (Option ℤ) DecimalFault → Option ℤ
end_or_none (Ok end) = end
end_or_none (Err fault) = None

-- a cell's number
abbrev pub price_in : CellReader → List ℕ → ℤ
price_in reader cell = number_or_0 (reader.number price_limit cell)

-- the price in a part of a tier
abbrev pub part_price : CellReader → Row → Structure → ℕ → ℕ → Part → ℤ
part_price reader row structure period tier part = price_in reader (part_cell row structure period tier part)

-- the fault of a cell's number is refused with this column
abbrev pub fault_refusal : {A : Type 0} → Row → Option ℕ → Result A DecimalFault → Option Refused
fault_refusal row column (Ok value) = None
fault_refusal row column (Err fault) = Some (refusal row.header cause.Decimal column (detail_of fault))

-- a tier is the last of its period where the next one isn't there
abbrev pub is_last : Row → Structure → ℕ → ℕ → Bool
is_last row structure period tier = not (has_tier row structure period (suc tier))

-- where a tier ends; the cell of the last tier isn't read
abbrev pub end_of : CellReader → Row → Structure → ℕ → ℕ → Option ℤ
end_of reader row structure period tier = end_or_none (reader.end (part_cell row structure period tier Max))

-- where a tier begins
abbrev pub begin_of : CellReader → Row → Structure → ℕ → ℕ → Option ℤ
begin_of reader row structure period zero = Some (pos 0)
begin_of reader row structure period (suc tier) = end_of reader row structure period tier

-- a tier's price: its rate, and what is added to that
abbrev pub price_of : CellReader → Row → Structure → ℕ → ℕ → ℤ
price_of reader row structure period tier = part_price reader row structure period tier Rate +ℤ part_price reader row structure period tier Adj

-- both are there, and the second is above the first
abbrev pub is_above : Option ℤ → Option ℤ → Bool
is_above None end = false
is_above (Some begin) None = false
is_above (Some begin) (Some end) = int_lt begin end

-- a cell that is blank or says this unit in letters of either case
abbrev pub is_unit : List ℕ → List ℕ → Bool
is_unit unit cell = not (is_filled cell) || bytes_eq (str_to_ascii_lowercase cell) unit

-- an accepted unit of a tier: none, or kWh in letters of either case
abbrev pub is_kwh : List ℕ → Bool
is_kwh = is_unit (codes "kwh")

-- the first tier, of 16, whose sell rate is given
abbrev pub first_sell : Row → Structure → ℕ → Option ℕ
first_sell row structure period = find (λ tier. is_filled (part_cell row structure period tier Sell)) (range_with_len 0 16)

-- what a period pays for energy sent out: the first sell rate that is given, or 0
abbrev pub sell_of : CellReader → Row → Structure → ℕ → ℤ
sell_of reader row structure period =
    unwrap_or (option_map (λ tier. part_price reader row structure period tier Sell) (first_sell row structure period)) (pos 0)

-- 7: a tier is there without the one before it; the first of its cells that isn't empty is named
abbrev pub hole_refusal : CellReader → Row → Structure → ℕ → Option Refused
hole_refusal reader row structure period =
    option_map (λ tier. refusal row.header cause.TierHole (first_filled row structure period tier) 0) (reader.hole row structure period)

-- 4: where a tier ends can't be read, unless it is the last
abbrev pub end_refusal : CellReader → Row → Structure → ℕ → ℕ → Option Refused
end_refusal reader row structure period tier =
    if is_last row structure period tier then None
    else fault_refusal row (part_column row structure period tier Max) (reader.end (part_cell row structure period tier Max))

-- 4: a price of a tier can't be read
abbrev pub price_refusal : CellReader → Row → Structure → ℕ → ℕ → Part → Option Refused
price_refusal reader row structure period tier part =
    fault_refusal row (part_column row structure period tier part) (reader.number price_limit (part_cell row structure period tier part))

-- 4: a number of a tier can't be read: where it ends, its rate, what is added to that, and its sell rate
abbrev pub number_refusals : CellReader → Row → Structure → ℕ → ℕ → List (Option Refused)
number_refusals reader row structure period tier =
    end_refusal reader row structure period tier
    ∷ price_refusal reader row structure period tier Rate
    ∷ price_refusal reader row structure period tier Adj
    ∷ price_refusal reader row structure period tier Sell
    ∷ []

-- the unit of a tier isn't kWh, where the period has two tiers or more
abbrev pub has_other_unit : Row → Structure → ℕ → ℕ → Bool
has_other_unit row structure period tier = has_tier row structure period 1 && not (is_kwh (part_cell row structure period tier Unit))

-- 9: the unit of a tier
abbrev pub unit_refusal : Row → Structure → ℕ → ℕ → Option Refused
unit_refusal row structure period tier =
    when (has_other_unit row structure period tier) (refusal row.header cause.TierUnit (part_column row structure period tier Unit) 0)

-- a tier other than the last doesn't end above where it begins
abbrev pub breaks_order : CellReader → Row → Structure → ℕ → ℕ → Bool
breaks_order reader row structure period tier =
    not (is_last row structure period tier) && not (is_above (begin_of reader row structure period tier) (end_of reader row structure period tier))

-- 8: the order of ends
abbrev pub order_refusal : CellReader → Row → Structure → ℕ → ℕ → Option Refused
order_refusal reader row structure period tier =
    when (breaks_order reader row structure period tier) (refusal row.header cause.TierOrder (part_column row structure period tier Max) 0)

-- a sell rate that is given isn't the period's
abbrev pub has_other_sell : CellReader → Row → Structure → ℕ → ℕ → Bool
has_other_sell reader row structure period tier =
    is_filled (part_cell row structure period tier Sell)
    && not (int_eq (part_price reader row structure period tier Sell) (sell_of reader row structure period))

-- 10: sell rates differ
abbrev pub sell_refusal : CellReader → Row → Structure → ℕ → ℕ → Option Refused
sell_refusal reader row structure period tier =
    when (has_other_sell reader row structure period tier) (refusal row.header cause.SellTiers (part_column row structure period tier Sell) 0)

-- the structures of which a month's demand is billed
abbrev pub is_demand : Structure → Bool
is_demand Energy = false
is_demand Demand = true
is_demand FlatDemand = true
is_demand Coincident = false

-- what is drawn for demand is never paid for, so no price of demand is below 0 (our own rule)
abbrev pub has_negative_price : CellReader → Row → Structure → ℕ → ℕ → Bool
has_negative_price reader row structure period tier = is_demand structure && int_lt (price_of reader row structure period tier) (pos 0)

-- 11: a price of demand is below 0; the column of what is added to the rate is named where the header has it, else that of the rate
abbrev pub fall_refusal : CellReader → Row → Structure → ℕ → ℕ → Option Refused
fall_refusal reader row structure period tier =
    when (has_negative_price reader row structure period tier)
    (refusal row.header cause.DemandFalls (option_or (part_column row structure period tier Adj) (part_column row structure period tier Rate)) 0)

-- all refusals of a period, in order
unfoldable pub period_refusals : CellReader → Row → Structure → ℕ → List (Option Refused)
period_refusals reader row structure period =
    hole_refusal reader row structure period
    ∷ each 16 (number_refusals reader row structure period)
    ++ each 16 (λ tier. unit_refusal row structure period tier ∷ [])
    ++ each 16 (λ tier. order_refusal reader row structure period tier ∷ [])
    ++ each 16 (λ tier. sell_refusal reader row structure period tier ∷ [])
    ++ each 16 (λ tier. fall_refusal reader row structure period tier ∷ [])

-- the tiers 0 to `last` of a period, neighbours of one price joined
unfoldable pub tiers_to : CellReader → Row → Structure → ℕ → ℕ → List Tier
tiers_to reader row structure period zero = open_tier (price_of reader row structure period 0) ∷ []
tiers_to reader row structure period (suc last) =
    if has_tier row structure period (suc last)
    then with_tier (unwrap_or (end_of reader row structure period last) (pos 0)) (price_of reader row structure period (suc last)) (tiers_to reader row structure period last)
    else tiers_to reader row structure period last

-- an energy period; None where it has no tier
abbrev pub energy_period : CellReader → Row → ℕ → Option Period
energy_period reader row period =
    if has_tier row Energy period 0 then Some (record { tiers = tiers_to reader row Energy period 15; sell = sell_of reader row Energy period }) else None

-- all energy periods by their numbers
unfoldable pub energy_periods : CellReader → Row → List (Option Period)
energy_periods reader row = map (energy_period reader row) (range_with_len 0 36)

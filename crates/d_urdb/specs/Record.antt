-- The record of a label in a table: the tariff that it is, or why it is refused. The names of the columns and what they mean are the
-- Utility Rate Database's; the limits, the numbers of the refusals and their order are our own.
use Rattle.std.specs.Prelude.{◌≡◌, ℕ, Bool, false, not, ◌&&◌, ◌||◌, List, [], ◌∷◌, ◌++◌, drop, filter, bytes_eq, codes, Option, None, Some, Result, Ok, Err}
use Rattle.std.specs.Str.{str_to_ascii_lowercase}
use Rattle.d_table.specs.Table.{row_at, column_of, has_value}
use Rattle.d_tariff.specs.Terms.{Terms}
use Rattle.d_urdb.specs.declared.cause.Cause.{Cause}
use Rattle.d_urdb.specs.declared.fault.Refused.{Refused}
use Rattle.d_urdb.specs.declared.rule.RuleChoice.{RuleChoice}
use Rattle.d_urdb.specs.declared.rule.RuleChoice.TheVariants.{AsRecorded, NetBilling}
use Rattle.d_columns.specs.declared.names.Structure.TheVariants.{Energy, Demand, FlatDemand}
use Rattle.d_urdb.specs.Adjustments.{coincident_refusals, reactive_name, fuel_refusals}
use Rattle.d_urdb.specs.Charges.{fixed_name, fixed_unit_name, charge_refusals, minimum_refusals, annual_name, zero_refusals, fixed_of, minimum_of}
use Rattle.d_urdb.specs.Demand.{demand_unit_name, flat_unit_name, demand_weekday_name, demand_weekend_name, demand_unit_refusal, demand_hours_refusals, demand_periods}
use Rattle.d_urdb.specs.FlatMonths.{month_refusals, flat_months}
use Rattle.d_urdb.specs.Hours.{hours_refusals, hours_in, weekday_name, weekend_name}
use Rattle.d_columns.specs.Ignored.{ignored_columns}
use Rattle.d_urdb.specs.Numbers.{CellReader, IsCellReader}
use Rattle.d_urdb.specs.Periods.{period_refusals, energy_periods}
use Rattle.d_urdb.specs.Ratchets.{ratchet_refusals, ratchets}
use Rattle.d_urdb.specs.Refusals.{first_of, each, refusal, when}
use Rattle.d_columns.specs.Tiers.{Row, named_cell, is_filled}
use Rattle.d_urdb.specs.declared.cause.Cause.TheVariants as cause

-- the column of the rule of billing
abbrev pub rule_name : List ℕ
rule_name = codes "dgrules"

-- whether the record's rule is this text, ASCII case ignored
abbrev pub says_rule : Row → List ℕ → Bool
says_rule row text = bytes_eq (str_to_ascii_lowercase (named_cell row rule_name)) text

-- a rule is said, and none of net billing
abbrev pub says_unknown_rule : Row → Bool
says_unknown_rule row =
    is_filled (named_cell row rule_name)
    && not (says_rule row (codes "net billing instantaneous") || says_rule row (codes "net billing hourly"))

-- whether energy is settled hour by hour
abbrev pub is_hourly : Row → RuleChoice → Bool
is_hourly row NetBilling = false
is_hourly row AsRecorded = says_rule row (codes "net billing hourly")

-- a refusal that names the column of the rule
abbrev pub rule_refusal : Row → Cause → Refused
rule_refusal row cause_ = refusal row.header cause_ (column_of rule_name row.header) 0

-- 15: energy is settled hour by hour, and there isn't a reading an hour; the row that has the label is the first below the header
abbrev pub hourly_refusal : List (List (List ℕ)) → Refused
hourly_refusal rows = rule_refusal (record { header = row_at rows 0; cells = row_at rows 1 }) cause.HourlyRule

-- 13, 14 and 21: rules that are refused by name, and texts that are no rule; nothing where net billing is chosen in the rule's place
abbrev pub rule_refusals : Row → RuleChoice → List (Option Refused)
rule_refusals row NetBilling = []
rule_refusals row AsRecorded =
    when (says_rule row (codes "net metering")) (rule_refusal row cause.NetMetering)
    ∷ when (says_rule row (codes "buy all sell all")) (rule_refusal row cause.BuyAllSellAll)
    ∷ when (says_unknown_rule row) (rule_refusal row cause.RuleUnknown)
    ∷ []

-- the refusals of the rule of billing, of the energy periods and of their hours, in order
abbrev pub energy_section : CellReader → Row → RuleChoice → List (Option Refused)
energy_section reader row rule = rule_refusals row rule ++ (each 36 (period_refusals reader row Energy) ++ hours_refusals reader row)

-- those of the demand periods, of their unit and of their hours
abbrev pub demand_section : CellReader → Row → List (Option Refused)
demand_section reader row =
    each 36 (period_refusals reader row Demand) ++ ((demand_unit_refusal row demand_unit_name ∷ []) ++ demand_hours_refusals reader row)

-- those of the flat demand periods, of their unit and of their months
abbrev pub flat_section : CellReader → Row → List (Option Refused)
flat_section reader row =
    each 36 (period_refusals reader row FlatDemand) ++ ((demand_unit_refusal row flat_unit_name ∷ []) ++ month_refusals reader row)

-- those of what isn't billed
abbrev pub adjustment_section : CellReader → Row → List (Option Refused)
adjustment_section reader row = coincident_refusals reader row ++ (zero_refusals reader row reactive_name cause.Reactive ++ fuel_refusals reader row)

-- all refusals of a row, in order
unfoldable pub row_refusals : CellReader → Row → RuleChoice → List (Option Refused)
row_refusals reader row rule =
    energy_section reader row rule
    ++ (demand_section reader row
    ++ (flat_section reader row
    ++ (ratchet_refusals reader row
    ++ (charge_refusals reader row fixed_name fixed_unit_name
    ++ (minimum_refusals reader row
    ++ (zero_refusals reader row annual_name cause.AnnualMinimum
    ++ adjustment_section reader row))))))

-- the terms of a row that isn't refused
unfoldable pub row_terms : CellReader → Row → RuleChoice → Terms
row_terms reader row rule = record {
  energy = energy_periods reader row;
  demand = demand_periods reader row Demand;
  flat = demand_periods reader row FlatDemand;
  energy_weekday = hours_in reader row weekday_name;
  energy_weekend = hours_in reader row weekend_name;
  demand_weekday = hours_in reader row demand_weekday_name;
  demand_weekend = hours_in reader row demand_weekend_name;
  flat_months = flat_months reader row;
  ratchet = ratchets reader row;
  fixed = fixed_of reader row;
  minimum = minimum_of reader row;
  hourly = is_hourly row rule;
  ignored = ignored_columns row;
}

-- a refusal where one comes, else the terms
abbrev pub refused_or : Option Refused → Terms → Result Terms Refused
refused_or None terms = Ok terms
refused_or (Some refused) terms = Err refused

-- a row's terms or its refusal
unfoldable pub row_outcome : CellReader → Row → RuleChoice → Result Terms Refused
row_outcome reader row rule = refused_or (first_of (row_refusals reader row rule)) (row_terms reader row rule)

-- 1 and 2: no row has the label, or several have it
abbrev pub one_row_outcome : CellReader → List (List ℕ) → RuleChoice → List (List (List ℕ)) → Result Terms Refused
one_row_outcome reader header rule [] = Err (refusal header cause.NoLabel None 0)
one_row_outcome reader header rule (cells ∷ []) = row_outcome reader (record { header = header; cells = cells }) rule
one_row_outcome reader header rule (cells ∷ others ∷ more) = Err (refusal header cause.LabelTwice None 0)

-- the column of the label
abbrev pub label_name : List ℕ
label_name = codes "label"

-- the data rows whose label this is
abbrev pub labelled_rows : List (List (List ℕ)) → List ℕ → List (List (List ℕ))
labelled_rows rows label = filter (has_value (column_of label_name (row_at rows 0)) label) (drop 1 rows)

-- 3: there is no column of labels
abbrev pub column_outcome : CellReader → List (List (List ℕ)) → List ℕ → RuleChoice → Option ℕ → Result Terms Refused
column_outcome reader rows label rule None = Err (refusal (row_at rows 0) cause.NoColumn None 0)
column_outcome reader rows label rule (Some column) = one_row_outcome reader (row_at rows 0) rule (labelled_rows rows label)

-- the terms of the record with this label, or its refusal
abbrev pub record_outcome : CellReader → List (List (List ℕ)) → List ℕ → RuleChoice → Result Terms Refused
record_outcome reader rows label rule = column_outcome reader rows label rule (column_of label_name (row_at rows 0))

-- this is the outcome of the record with this label in these rows
abbrev pub IsOutcome : List (List (List ℕ)) → List ℕ → RuleChoice → Result Terms Refused → Type 0
IsOutcome rows label rule outcome = (reader : CellReader) × IsCellReader reader × (outcome ≡ record_outcome reader rows label rule)

-- each record has one outcome, and no other
abbrev pub HasOneOutcome : Type 0
HasOneOutcome =
    (rows : List (List (List ℕ))) (label : List ℕ) (rule : RuleChoice)
    → (outcome : Result Terms Refused) × IsOutcome rows label rule outcome × ((other : Result Terms Refused) → IsOutcome rows label rule other → other ≡ outcome)

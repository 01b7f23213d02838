-- The text of a tariff: its periods with their tiers, the periods of each hour, the lists of months, its charges, and the columns of the
-- record that it leaves out. All forms are our own.
use Rattle.std.specs.Prelude.{ℕ, ◌+◌, ℤ, pos, Bool, true, false, List, [], ◌++◌, Option, Some, None, length, slice_index, slice_index_or, codes}
use Rattle.d_text.specs.Text.{money_text, whole_text}
use Rattle.d_table.specs.Table.{cell_in, row_at}
use Rattle.d_tier.specs.declared.tier.Tier.{Tier}
use Rattle.d_tier.specs.Tables.{end_at, price_at}
use Rattle.d_tariff.specs.declared.charge.Charge.{Charge}
use Rattle.d_tariff.specs.declared.charge.ChargeUnit.{ChargeUnit}
use Rattle.d_tariff.specs.declared.charge.ChargeUnit.TheVariants.{Day, Month, Year}
use Rattle.d_tariff.specs.declared.period.Period.{Period}
use Rattle.d_tariff.specs.Terms.{Terms, period_at, tiers_at}
use Rattle.d_report.specs.Lines.{line, rate_line, texts_of}
use Rattle.d_report.specs.Shown.{shown}

-- where a tier ends, in Wh or W; the last tier has no end
abbrev pub end_text : Option ℤ → List ℕ
end_text None = codes " end none"
end_text (Some end) = codes " end " ++ whole_text end

-- the line of a tier, counted from 0
abbrev pub tier_line : ℕ → Option ℤ → ℤ → List ℕ
tier_line tier end price = codes "tier " ++ (whole_text (pos tier) ++ (end_text end ++ rate_line (codes " price ") price))

-- the lines of a table of tiers
abbrev pub tier_lines : List Tier → List ℕ
tier_lines tiers = texts_of (length tiers) (λ tier. tier_line tier (end_at tiers tier) (price_at tiers tier))

-- the lines of the energy period of that number: what is paid for the export, and its tiers; nothing where there is no such period
abbrev pub energy_lines : ℕ → Option Period → List ℕ
energy_lines number None = []
energy_lines number (Some period) =
    codes "energy " ++ (whole_text (pos number) ++ (rate_line (codes " sell ") period.sell ++ tier_lines period.tiers))

-- the lines of the demand period of that number, of demand or of flat demand as the word says; nothing where it has no tiers
abbrev pub demand_lines : List ℕ → ℕ → Option (List Tier) → List ℕ
demand_lines word number None = []
demand_lines word number (Some tiers) = line (word ++ whole_text (pos number)) ++ tier_lines tiers

-- the lines of all energy periods
abbrev pub energy_periods : List (Option Period) → List ℕ
energy_periods periods = texts_of 36 (λ number. energy_lines number (period_at periods number))

-- the lines of all demand periods, of demand or of flat demand as the word says
abbrev pub demand_periods : List ℕ → List (Option (List Tier)) → List ℕ
demand_periods word lists = texts_of 36 (λ number. demand_lines word number (tiers_at lists number))

-- numbers, each behind a blank
abbrev pub numbers_text : List ℕ → List ℕ
numbers_text numbers = texts_of (length numbers) (λ place. codes " " ++ whole_text (pos (slice_index numbers place)))

-- the end of a line of numbers
abbrev pub numbers_line : List ℕ → List ℕ
numbers_line numbers = line (numbers_text numbers)

-- the line of a month, from 0: its number, from 1, and the period of each hour from midnight on
abbrev pub month_line : List ℕ → List (List ℕ) → ℕ → List ℕ
month_line word grid month = word ++ (whole_text (pos (month + 1)) ++ numbers_line (slice_index_or grid month []))

-- the lines of the twelve months
abbrev pub grid_lines : List ℕ → List (List ℕ) → List ℕ
grid_lines word grid = texts_of 12 (month_line word grid)

-- how often a charge is made
abbrev pub unit_text : ChargeUnit → List ℕ
unit_text Day = codes " day"
unit_text Month = codes " month"
unit_text Year = codes " year"

-- the line of a charge
abbrev pub charge_line : List ℕ → Charge → List ℕ
charge_line word charge = word ++ (money_text charge.amount ++ line (unit_text charge.unit))

-- the line of the least that a bill is
abbrev pub minimum_charge_line : Option Charge → List ℕ
minimum_charge_line None = line (codes "minimum none")
minimum_charge_line (Some charge) = charge_line (codes "minimum ") charge

-- the name of a column, as it is shown
abbrev pub ignored_line : List (List (List ℕ)) → ℕ → List ℕ
ignored_line rows column = codes "ignored " ++ line (shown (cell_in (row_at rows 0) column))

-- the names of columns
abbrev pub ignored_lines : List (List (List ℕ)) → List ℕ → List ℕ
ignored_lines rows columns = texts_of (length columns) (λ place. ignored_line rows (slice_index columns place))

-- how energy is settled: in each interval, or hour by hour
abbrev pub rule_line : Bool → List ℕ
rule_line false = line (codes "rule instantaneous")
rule_line true = line (codes "rule hourly")

-- the lines before those of periods
abbrev pub front_lines : List ℕ → Bool → List ℕ
front_lines label hourly = line (codes "dispatch tariff") ++ (line (codes "label " ++ label) ++ rule_line hourly)

-- the lines of periods
abbrev pub all_period_lines : Terms → List ℕ
all_period_lines t = energy_periods t.energy ++ (demand_periods (codes "demand ") t.demand ++ demand_periods (codes "flat ") t.flat)

-- the lines of the hours
abbrev pub hour_lines : Terms → List ℕ
hour_lines t =
    grid_lines (codes "energy weekday ") t.energy_weekday ++ (grid_lines (codes "energy weekend ") t.energy_weekend
    ++ (grid_lines (codes "demand weekday ") t.demand_weekday ++ grid_lines (codes "demand weekend ") t.demand_weekend))

-- the flat demand period of each month, and the fraction, in units of 10^-20, of an earlier peak for which it is billed at least
abbrev pub month_lines : Terms → List ℕ
month_lines t = codes "flat months" ++ (numbers_line t.flat_months ++ (codes "ratchet" ++ numbers_line t.ratchet))

-- the lines of charges
abbrev pub charge_lines : Terms → List ℕ
charge_lines t = charge_line (codes "fixed ") t.fixed ++ minimum_charge_line t.minimum

-- the lines of what a tariff says
abbrev pub terms_lines : Terms → List ℕ
terms_lines t = all_period_lines t ++ (hour_lines t ++ (month_lines t ++ charge_lines t))

-- the text of the tariff of a record of that label, in a table with these rows
abbrev pub tariff_text : List (List (List ℕ)) → List ℕ → Terms → List ℕ
tariff_text rows label t = front_lines label t.hourly ++ (terms_lines t ++ ignored_lines rows t.ignored)

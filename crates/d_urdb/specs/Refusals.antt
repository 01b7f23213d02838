-- How a record is refused, and in which order refusals come.
use Rattle.std.specs.Prelude.{ℕ, zero, suc, Bool, List, [], ◌∷◌, ◌++◌, length, Option, None, Some, unwrap_or, if◌then◌else◌}
use Rattle.d_text.specs.declared.decimal.DecimalFault.{DecimalFault}
use Rattle.d_text.specs.declared.decimal.DecimalFault.TheVariants.{Empty, Form, TooLarge, TooFine}
use Rattle.d_urdb.specs.declared.cause.Cause.{Cause}
use Rattle.d_urdb.specs.declared.cause.Cause.TheVariants.{NoLabel, LabelTwice, NoColumn, Decimal, Grid, EnergyMissing, TierHole, TierOrder, TierUnit, SellTiers, DemandFalls, DemandUnit, NetMetering, BuyAllSellAll, HourlyRule, Coincident, Reactive, AnnualMinimum, FuelAdjustment, ChargeUnit, RuleUnknown, Fraction}
use Rattle.d_urdb.specs.declared.fault.Refused.{Refused}

-- the first of several refusals that comes
unfoldable pub first_of : List (Option Refused) → Option Refused
first_of [] = None
first_of (None ∷ rest) = first_of rest
first_of (Some refused ∷ rest) = Some refused

-- the lists of 0 to n - 1, joined in order
unfoldable pub each : ℕ → (ℕ → List (Option Refused)) → List (Option Refused)
each zero list = []
each (suc n) list = each n list ++ list n

-- the number of each cause
abbrev pub number_of : Cause → ℕ
number_of NoLabel = 1
number_of LabelTwice = 2
number_of NoColumn = 3
number_of Decimal = 4
number_of Grid = 5
number_of EnergyMissing = 6
number_of TierHole = 7
number_of TierOrder = 8
number_of TierUnit = 9
number_of SellTiers = 10
number_of DemandFalls = 11
number_of DemandUnit = 12
number_of NetMetering = 13
number_of BuyAllSellAll = 14
number_of HourlyRule = 15
number_of Coincident = 16
number_of Reactive = 17
number_of AnnualMinimum = 18
number_of FuelAdjustment = 19
number_of ChargeUnit = 20
number_of RuleUnknown = 21
number_of Fraction = 22

-- a refusal by its cause, the column that it names, and a detail; the number of columns stands for no column
abbrev pub refusal : List (List ℕ) → Cause → Option ℕ → ℕ → Refused
refusal header cause column detail = record { number = number_of cause; column = unwrap_or column (length header); detail = detail }

-- a refusal that comes exactly where the test holds
abbrev pub when : Bool → Refused → Option Refused
when test refused = if test then Some refused else None

-- what a refusal says of a number's fault: 1 that the cell is no decimal, 2 that it is too large, 3 that it is too fine
abbrev pub detail_of : DecimalFault → ℕ
detail_of Empty = 1
detail_of (Form place) = 1
detail_of TooLarge = 2
detail_of TooFine = 3

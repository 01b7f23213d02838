-- What each tier of coincident demand is refused for, by one of its rules.
use Rattle.std.specs.Prelude.{ℕ, List, Option}
use Rattle.d_urdb.specs.declared.coincident_rule.CoincidentRule.{CoincidentRule}
use Rattle.d_urdb.specs.declared.coincident_rule.CoincidentRule.TheVariants.{Numbers, Prices}
use Rattle.d_urdb.specs.declared.fault.Refused.{Refused}
use Rattle.d_urdb.specs.Adjustments.{coincident_number_refusals, coincident_price_refusals}
use Rattle.d_urdb.specs.Numbers.{CellReader}
use Rattle.d_columns.specs.Tiers.{Row}

-- the refusals of a tier by one of the rules
abbrev pub rule_refusals : CoincidentRule → CellReader → Row → ℕ → ℕ → List (Option Refused)
rule_refusals Numbers reader row period tier = coincident_number_refusals reader row period tier
rule_refusals Prices reader row period tier = coincident_price_refusals reader row period tier

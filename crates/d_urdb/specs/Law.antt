-- What the terms of each accepted record keep, whoever reads it.
use Rattle.std.specs.Prelude.{ℕ, List, Ok}
use Rattle.d_tariff.specs.Terms.{Terms, IsTariff, HasTables, HasGrids}
use Rattle.d_urdb.specs.declared.rule.RuleChoice.{RuleChoice}
use Rattle.d_urdb.specs.Record.{IsOutcome}

-- this holds of the terms of each record that isn't refused
abbrev pub HoldsOfAccepted : (Terms → Type 0) → Type 0
HoldsOfAccepted Holds =
    (rows : List (List (List ℕ))) (label : List ℕ) (rule : RuleChoice) (terms : Terms) → IsOutcome rows label rule (Ok terms) → Holds terms

-- they are a valid tariff
abbrev pub AcceptsTariffs : Type 0
AcceptsTariffs = HoldsOfAccepted IsTariff

-- their tiers are tables
abbrev pub AcceptsTables : Type 0
AcceptsTables = HoldsOfAccepted HasTables

-- and their schedules are grids
abbrev pub AcceptsGrids : Type 0
AcceptsGrids = HoldsOfAccepted HasGrids

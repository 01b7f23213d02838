-- The names of refusals, which are our own.
use Rattle.std.specs.Prelude.{ℕ, List, [], ◌∷◌, slice_index_or, codes}

-- the names of the refusals by their numbers, from 0
abbrev pub refusal_names : List (List ℕ)
refusal_names =
    codes "Shape" ∷ codes "NoLabel" ∷ codes "LabelTwice" ∷ codes "NoColumn" ∷ codes "Decimal" ∷ codes "Grid" ∷ codes "EnergyMissing"
    ∷ codes "TierHole" ∷ codes "TierOrder" ∷ codes "TierUnit" ∷ codes "SellTiers" ∷ codes "DemandFalls" ∷ codes "DemandUnit"
    ∷ codes "NetMetering" ∷ codes "BuyAllSellAll" ∷ codes "HourlyRule" ∷ codes "Coincident" ∷ codes "Reactive" ∷ codes "AnnualMinimum"
    ∷ codes "FuelAdjustment" ∷ codes "ChargeUnit" ∷ codes "RuleUnknown" ∷ codes "Fraction" ∷ codes "NotYet" ∷ []

-- the name of a refusal; none for a number that no refusal has
abbrev pub refusal_name : ℕ → List ℕ
refusal_name number = slice_index_or refusal_names number []

-- Why neighbours of one price may be one tier: what is charged stays the same.
use Rattle.std.specs.Prelude.{◌≡◌, ⊤, ℤ, pos, ◌<ℤ◌, List, [], ◌∷◌, Some, fold}
use Rattle.d_tier.specs.declared.tier.Tier.{Tier}
use Rattle.d_tier.specs.Tables.{open_tier, with_tier}
use Rattle.d_tier.specs.Charges.{tier_charge}

-- a tier behind others: where it begins, which is where the one before it ends, and its price
pub record Step : Type 0 where
  pub begin : ℤ
  pub price : ℤ

-- each step begins above the one before it, the first above `start`
abbrev pub IsRisingFrom : ℤ → List Step → Type 0
IsRisingFrom start [] = ⊤
IsRisingFrom start (step ∷ steps) = (start <ℤ step.begin) × IsRisingFrom step.begin steps

-- a first price and the steps behind it, as a record has them: each a tier of its own, whether or not its neighbour has the same price
abbrev pub own_tiers : ℤ → List Step → List Tier
own_tiers price [] = open_tier price ∷ []
own_tiers price (step ∷ steps) = record { price = price; end = Some step.begin } ∷ own_tiers step.price steps

-- the same as a table has them: neighbours of one price are one tier
abbrev pub joined_tiers : ℤ → List Step → List Tier
joined_tiers price steps = fold (λ tiers step. with_tier step.begin step.price tiers) (open_tier price ∷ []) steps

-- both charge every amount alike
abbrev pub JoiningKeepsCharges : Type 0
JoiningKeepsCharges = (price : ℤ) (steps : List Step) (x : ℤ) → IsRisingFrom (pos 0) steps
    → tier_charge (joined_tiers price steps) x ≡ tier_charge (own_tiers price steps) x

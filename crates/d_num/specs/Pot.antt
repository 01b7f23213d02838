-- The cost of going on from a place to the month's end, where there may be no way at all.
use Rattle.std.specs.Prelude.{ℕ, ◌≤ℤ◌, ◌+ℤ◌, ⊤}
use Rattle.d_num.specs.Amount.{IsWithin}
use Rattle.d_num.specs.declared.pot.Pot.{Pot}
use Rattle.d_num.specs.declared.pot.Pot.TheVariants.{To, NoWay}

-- a cost is no greater than another; no way at all is greater than every cost
abbrev pub AtMost : Pot → Pot → Type 0
AtMost (To one) (To other) = one ≤ℤ other
AtMost (To one) NoWay = ⊤
AtMost NoWay (To other) = ⊥
AtMost NoWay NoWay = ⊤

-- the cost of a step and of what comes after it; where either can't be had there is no way
abbrev pub joined : Pot → Pot → Pot
joined (To cost) (To rest) = To (cost +ℤ rest)
joined (To cost) NoWay = NoWay
joined NoWay rest = NoWay

-- a cost that is at most this size, or no way
abbrev pub IsPotWithin : ℕ → Pot → Type 0
IsPotWithin most (To cost) = IsWithin most cost
IsPotWithin most NoWay = ⊤

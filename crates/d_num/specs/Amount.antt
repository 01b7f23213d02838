-- The ranges of money, rates, energy and power. All are our own limits: within them no bill of a month leaves 128 bits.
use Rattle.std.specs.Prelude.{◌==◌, ◌||◌, IsTrue, ℕ, ℤ, pos, neg_ℤ, ◌≤ℤ◌, ◌*ℤ◌, ◌≡◌, ◌⊎◌, ◌*◌, ◌^◌}

-- a whole number of at most this size, whatever its sign
abbrev pub IsWithin : ℕ → ℤ → Type 0
IsWithin most z = (neg_ℤ (pos most) ≤ℤ z) × (z ≤ℤ pos most)

-- from 0 to this
abbrev pub IsUpTo : ℕ → ℤ → Type 0
IsUpTo most z = (pos 0 ≤ℤ z) × (z ≤ℤ pos most)

-- money in units of 10^-21 USD
abbrev pub IsMoney : ℤ → Type 0
IsMoney z = IsWithin (10 ^ 37) z

-- a price in units of 10^-18 USD per kWh or per kW, so that one unit of it times 1 Wh or 1 W is one unit of money
abbrev pub IsRate : ℤ → Type 0
IsRate z = IsWithin (10 ^ 22) z

-- energy in watt-hours
abbrev pub IsWh : ℤ → Type 0
IsWh z = IsWithin (2 * 10 ^ 13) z

-- power in watts
abbrev pub IsWatt : ℤ → Type 0
IsWatt z = IsUpTo (10 ^ 13) z

-- the length of an interval of which a meter's readings may be made
abbrev pub IsIntervalLength : ℕ → Type 0
IsIntervalLength minutes = ((minutes ≡ 5) ⊎ (minutes ≡ 15)) ⊎ ((minutes ≡ 30) ⊎ (minutes ≡ 60))

-- readings are made every 15, 30 or 60 minutes (our own choice)
abbrev pub IsReadingLength : ℕ → Type 0
IsReadingLength minutes = IsTrue ((minutes == 15) || (minutes == 30) || (minutes == 60))

-- this much energy spread evenly over that many minutes is this power
abbrev pub IsPowerOf : ℤ → ℕ → ℤ → Type 0
IsPowerOf energy minutes power = power *ℤ pos minutes ≡ energy *ℤ pos 60

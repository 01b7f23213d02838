-- The ranges of a certificate's numbers. All are our own rules.
use Rattle.std.specs.Prelude.{ℕ, ◌+◌, ◌*◌, ◌/◌, ◌-◌, ◌^◌, ◌==◌, ◌&&◌, ◌||◌, ℤ, pos, negsuc, unsigned_abs, Bool, true, false, nat_le, nat_lt, List, length}
use Rattle.std.specs.List.{list_all}
use Rattle.d_num.specs.declared.pot.Pot.{Pot}
use Rattle.d_num.specs.declared.pot.Pot.TheVariants.{To, NoWay}

-- from one number to another, both among them
unfoldable pub from_to : ℕ → ℕ → ℤ → Bool
from_to least most (pos n) = nat_le least n && nat_le n most
from_to least most (negsuc n) = false

-- one of so many things that are counted from 0
unfoldable pub is_index : ℕ → ℤ → Bool
is_index count (pos n) = nat_lt n count
is_index count (negsuc n) = false

-- this number and no other
unfoldable pub is_number : ℕ → ℤ → Bool
is_number n (pos m) = m == n
is_number n (negsuc m) = false

-- at most this size, whatever its sign
unfoldable pub is_sized : ℕ → ℤ → Bool
is_sized most z = nat_le (unsigned_abs z) most

-- a byte that is printable in ASCII and no space
unfoldable pub is_printed : ℕ → Bool
is_printed byte = nat_le 33 byte && nat_le byte 126

-- a label: 1 to 64 printable bytes
unfoldable pub is_label : List ℕ → Bool
is_label text = nat_le 1 (length text) && nat_le (length text) 64 && list_all is_printed text

-- readings are made every 15, 30 or 60 minutes
unfoldable pub is_length : ℤ → Bool
is_length z = is_number 15 z || is_number 30 z || is_number 60 z

-- the floor is at most the level at the start, that at most the capacity, and so is the least level at the end
unfoldable pub are_levels : ℤ → ℤ → ℤ → ℤ → Bool
are_levels floor capacity start least =
    from_to 0 255 capacity && from_to 0 (unsigned_abs capacity) start && from_to 0 (unsigned_abs start) floor
    && from_to 0 (unsigned_abs capacity) least

-- an amount of money that a certificate may name
unfoldable pub is_amount : ℤ → Bool
is_amount z = is_sized (10 ^ 36) z

-- a slope, in 10^-18 USD per kWh
unfoldable pub is_slope : ℤ → Bool
is_slope z = is_sized (10 ^ 22) z

-- a potential
unfoldable pub is_potential : Pot → Bool
is_potential NoWay = true
is_potential (To z) = is_amount z

-- where a range may be split, in W or Wh
unfoldable pub is_cut : ℤ → Bool
is_cut z = from_to 0 (10 ^ 14) z

-- how many modes a line of a day has
unfoldable pub per_day : ℕ → ℕ
per_day minutes = 1440 / minutes

-- how many potentials a layer has
unfoldable pub width : ℕ → ℕ → ℕ
width floor capacity = (capacity + 1) - floor

-- the most nodes of a tree
abbrev pub most_nodes : ℕ
most_nodes = 65535

-- the most potentials of all leaves together
abbrev pub most_potentials : ℕ
most_potentials = 2 ^ 24

-- how many potentials so many leaves have
unfoldable pub potentials : ℕ → ℕ → ℕ → ℕ
potentials leaves intervals levels = leaves * (intervals + 1) * levels

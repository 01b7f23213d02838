-- A cost, or that there is no way, in one number. All of it is our own rule.
use Rattle.std.specs.Prelude.{ℤ, Bool, true, false, pos, ◌≡◌, ◌*◌, ◌^◌, int_le, refl}
use Rattle.d_num.specs.Amount.{IsWithin}
use Rattle.d_num.specs.declared.pot.Pot.{Pot}
use Rattle.d_num.specs.declared.pot.Pot.TheVariants.{To, NoWay}

-- what a number stands for, by whether it is a cost
abbrev pub shown_by : Bool → ℤ → Pot
shown_by true z = To z
shown_by false z = NoWay

-- a number up to 10^37 stands for so much money, and each one above it for no way
abbrev pub shown : ℤ → Pot
shown z = shown_by (int_le z (pos (10 ^ 37))) z

-- what is kept of it, by whether it is a cost
abbrev pub IsPackedBy : Bool → ℤ → Type 0
IsPackedBy true z = IsWithin (10 ^ 37) z
IsPackedBy false z = pos (8 * 10 ^ 37) ≡ z

-- a cost in the range of money, or the one number that is kept for no way
abbrev pub IsPacked : ℤ → Type 0
IsPacked z = IsPackedBy (int_le z (pos (10 ^ 37))) z

-- the number that is kept
abbrev pub packed : Pot → ℤ
packed (To cost) = cost
packed NoWay = pos (8 * 10 ^ 37)

packed_shown_by : (b : Bool) (z : ℤ) → IsPackedBy b z → packed (shown_by b z) ≡ z
packed_shown_by true z h = refl
packed_shown_by false z h = h

-- a number that is kept is the one for what it stands for
pub packed_shown : (z : ℤ) → IsPacked z → packed (shown z) ≡ z
packed_shown z h = packed_shown_by (int_le z (pos (10 ^ 37))) z h

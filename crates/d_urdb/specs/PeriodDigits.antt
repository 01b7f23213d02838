-- The digits of a flat demand period, one after the other.
use Rattle.std.specs.Prelude.{ℕ, ◌+◌, ◌-◌, ◌*◌, ◌&&◌, nat_lt, Option, None, Some, if◌then◌else◌}
use Rattle.d_columns.specs.Names.{is_digit}

-- the number with one more digit at its end; None where the byte is no digit or the number passes 35
abbrev pub with_digit : ℕ → ℕ → Option ℕ
with_digit number byte = if is_digit byte && nat_lt (number * 10 + (byte - 48)) 36 then Some (number * 10 + (byte - 48)) else None

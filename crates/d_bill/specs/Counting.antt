-- How a tally grows by an interval, and how large charges can be.
use Rattle.std.specs.Prelude.{ℕ, ℤ, pos, ◌*◌, ◌^◌, ◌&&◌, nat_lt, unsigned_abs, List, length, if◌then◌else◌, slice_index_or}
use Rattle.std.specs.Int.{int_max}
use Rattle.d_bill.specs.Inputs.{Inputs, is_in_group}
use Rattle.d_bill.specs.Totals.{Tallied}

-- one peak after the groups below `done` that hold an interval were raised to its power
abbrev pub raised_peak : Inputs → ℕ → List ℤ → ℤ → ℕ → ℕ → ℤ
raised_peak i t old power done group =
    if nat_lt group done && is_in_group i t group then int_max (slice_index_or old group (pos 0)) power else slice_index_or old group (pos 0)

-- how large a period's charge can be: its import at 3000 USD per kWh
abbrev pub total_limit : Tallied → ℕ → ℕ
total_limit tally number = 3 * 10 ^ 21 * unsigned_abs (slice_index_or tally.totals number (pos 0))

-- how large a group's charge can be: 8 * 10^9 W of a month's intervals, or a floor of up to 10^13 W, at 3000 USD per kW
abbrev pub group_limit : Inputs → ℕ → ℕ
group_limit i group = if nat_lt group (length i.demand_groups) then 24 * 10 ^ 30 else 3 * 10 ^ 34

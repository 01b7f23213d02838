-- What is counted of a month before it is priced, whatever goes through the meter: a schedule's flow or the readings alone.
use Rattle.std.specs.Prelude.{◌≡◌, ◌==◌, ℕ, ℤ, pos, ◌*ℤ◌, ◌*◌, ◌^◌, ◌<◌, List, length, map, if◌then◌else◌}
use Rattle.std.specs.List.{range_with_len}
use Rattle.d_num.specs.Amount.{IsWithin}
use Rattle.d_num.specs.Sums.{sum_of_first, greatest_of_first}
use Rattle.d_bill.specs.Inputs.{Inputs, period_in, sell_at, is_in_group}
use Rattle.d_bill.specs.Flows.{net_at, flow_at, import_of, export_of, power_of}

-- the import of each of 36 energy periods, the worth of the export, and the greatest power of each of 37 groups of intervals
pub record Tallied : Type 0 where
  pub totals : List ℤ
  pub credit : ℤ
  pub peaks : List ℤ

-- over the first n intervals: the import of the intervals of an energy period
abbrev pub import_to : Inputs → (ℕ → ℤ) → ℕ → ℕ → ℤ
import_to i flow n period = sum_of_first n (λ t. if period_in i t == period then import_of (flow t) else pos 0)

-- what is paid for the export: each interval's at the sell rate of its period
abbrev pub credit_to : Inputs → (ℕ → ℤ) → ℕ → ℤ
credit_to i flow n = sum_of_first n (λ t. sell_at i t *ℤ export_of (flow t))

-- the greatest power in the intervals of a group; 0 where it holds none
abbrev pub peak_to : Inputs → (ℕ → ℤ) → ℕ → ℕ → ℤ
peak_to i flow n group = greatest_of_first n (λ t. if is_in_group i t group then power_of i.minutes (flow t) else pos 0)

-- f 0, f 1 .. f (n - 1)
unfoldable pub values_of : ℕ → (ℕ → ℤ) → List ℤ
values_of n f = map f (range_with_len 0 n)

-- all of it, over the first n intervals
abbrev pub tally_to : Inputs → (ℕ → ℤ) → ℕ → Tallied
tally_to i flow n = record { totals = values_of 36 (import_to i flow n); credit = credit_to i flow n; peaks = values_of 37 (peak_to i flow n) }

-- all of it, over the month
abbrev pub tally_by : Inputs → (ℕ → ℤ) → Tallied
tally_by i flow = tally_to i flow (length i.net)

-- what is counted of a schedule
abbrev pub tally_of : Inputs → List ℕ → Tallied
tally_of i s = tally_by i (flow_at i s)

-- what is counted of the readings alone, which a battery is compared with; no rule of the battery is tested
abbrev pub metered_tally : Inputs → Tallied
metered_tally i = tally_by i (net_at i)

-- it is the tally of the first n intervals, for some flow of at most 2 * 10^9 Wh an interval in size
pub record IsTalliedTo (i : Inputs) (n : ℕ) (tally : Tallied) : Type 0 where
  pub flow : ℕ → ℤ
  pub small : (t : ℕ) → t < n → IsWithin (2 * 10 ^ 9) (flow t)
  pub is : tally ≡ tally_to i flow n

-- it is the tally of a month
abbrev pub IsTallied : Inputs → Tallied → Type 0
IsTallied i tally = IsTalliedTo i (length i.net) tally

-- What is read of a cell, and what is made of it, is within its limit.
use Rattle.std.proofs.Common.{◌≡◌, ℕ, zero, suc, ◌*◌, ◌^◌, ◌<◌, ◌≤◌, ℤ, pos, negsuc, ◌+ℤ◌, ◌*ℤ◌, ◌≤ℤ◌, nat_lt, Bool, true, false, ◌&&◌, List, [], ◌∷◌, Option, None, Some, unwrap_or, option_map, Result, Ok, Err, if◌then◌else◌, subst, sym, ◌∙◌, arith, inl, inr}
use Rattle.std.proofs.lemmas.Bool.{cases_Bool}
use Rattle.std.proofs.lemmas.Bool.Decides.{nat_tests}
use Rattle.std.proofs.lemmas.Int.{ints}
use Rattle.std.proofs.lemmas.Option.{cond_some}
use Rattle.std.specs.List.{list_all}
use Rattle.std.specs.Option.{ForSome}
use Rattle.std.specs.Str.Parse.{digits_value}
use Rattle.d_num.specs.Amount.{IsWithin}
use Rattle.d_text.specs.declared.decimal.DecimalFault.{DecimalFault}
use Rattle.d_text.proofs.DecimalLaws.{decimal_within, floor_within}
use Rattle.d_tariff.specs.declared.charge.ChargeUnit.TheVariants.{Month}
use Rattle.d_tariff.specs.Terms.{IsCharge, IsMinimum}
use Rattle.d_columns.specs.declared.month_list.MonthList.TheVariants.{FlatPeriods, Ratchets}
use Rattle.d_columns.specs.declared.names.Structure.{Structure}
use Rattle.d_columns.specs.declared.names.Part.{Part}
use Rattle.d_columns.specs.declared.names.Part.TheVariants.{Max, Rate, Adj, Sell}
use Rattle.d_columns.specs.Names.{is_digit}
use Rattle.d_columns.specs.Tiers.{Row, named_cell, part_cell, has_tier, is_filled}
use Rattle.d_urdb.specs.Numbers.{CellReader, IsCellReader, IsNumber, IsEnd}
use Rattle.d_urdb.specs.NamedNumbers.{named_number}
use Rattle.d_urdb.specs.Refusals.{first_of}
use Rattle.d_urdb.specs.Periods.{number_or_0, end_or_none, part_price, price_of, end_of, first_sell, sell_of, tiers_to}
use Rattle.d_urdb.specs.Values.{HasPrices}
use Rattle.d_urdb.specs.Charges.{charge_limit, amount_in, is_charged, unit_at, is_year, charge_of, charge_refusals, yearly_refusal, minimum_refusals, minimum_of, minimum_name, minimum_unit_name}
use Rattle.d_urdb.specs.Months.{item_cell}
use Rattle.d_urdb.specs.FlatMonths.{period_in, flat_month}
use Rattle.d_urdb.specs.Ratchets.{fraction_limit, lookback_name, month_number, fraction_of, ratchet_of}
use Rattle.d_urdb.proofs.ChargeFacts.{tells_unit, is_yearly}
use Rattle.d_urdb.proofs.PeriodChecks.{when_none}
use Rattle.d_urdb.proofs.RefusalOrder.{front_none}
use Rattle.d_urdb.proofs.TierRise.{one_price, prices_with}

-- a number that is read
number_within : (limit : ℕ) (cell : List ℕ) (result : Result ℤ DecimalFault) → IsNumber limit cell result → IsWithin (limit * 10 ^ 18) (number_or_0 result)
number_within limit cell (Ok value) (inl blank) = rw blank.1 (omega (arith, ints), omega (arith, ints))
number_within limit cell (Ok value) (inr decimal) = decimal_within cell 18 limit value decimal
number_within limit cell (Err fault) is = (omega (arith, ints), omega (arith, ints))

-- an end that is read
end_within : (cell : List ℕ) (result : Result (Option ℤ) DecimalFault) (end : ℤ) → IsEnd cell result → end_or_none result ≡ Some end → end ≤ℤ pos (10 ^ 13)
end_within cell (Ok (Some to)) end (inl blank) same = let is : to ≡ end = cc in omega (arith, ints, is, blank.1)
end_within cell (Ok (Some to)) end (inr floor) same =
    let is : to ≡ end = cc in
    let within = floor_within cell 3 (10 ^ 10) to floor in
    omega (arith, ints, is, within.1)
end_within cell (Ok None) end is same = absurd (cc)
end_within cell (Err fault) end is same = absurd (cc)

-- two numbers together
sum_within : (a b : ℤ) → IsWithin (1000 * 10 ^ 18) a → IsWithin (1000 * 10 ^ 18) b → IsWithin (2 * 10 ^ 21) (a +ℤ b)
sum_within a b one other = (omega (arith, ints, one.0, other.0), omega (arith, ints, one.1, other.1))

wider : (a : ℤ) → IsWithin (1000 * 10 ^ 18) a → IsWithin (2 * 10 ^ 21) a
wider a within = (omega (arith, ints, within.0), omega (arith, ints, within.1))

-- units of 10^-18 USD as money
times_within : (a : ℤ) → IsWithin (charge_limit * 10 ^ 18) a → IsWithin (10 ^ 30) (a *ℤ pos 1000)
times_within a within = (omega (arith, ints, within.0), omega (arith, ints, within.1))

-- a fraction is at most 1
fraction_within : (number : ℤ) → IsWithin (fraction_limit * 10 ^ 18) number → fraction_of number ≤ 10 ^ 20
fraction_within (pos units) within = elim (cases_Bool (nat_lt (10 ^ 18) units)) [
  | inl large ↦ rw large (omega (arith, ints, within.1))
  | inr small ↦ let few : units ≤ 10 ^ 18 = grind (arith, nat_tests) in rw small (omega (arith, few))
]
fraction_within (negsuc units) within = omega arith

-- a period is at most 35
small_or_0 : (digits : Bool) (number : ℕ) → unwrap_or (if digits && nat_lt number 36 then Some number else None) 0 ≤ 35
small_or_0 false number = omega arith
small_or_0 true number = elim (cases_Bool (nat_lt number 36)) [
  | inl small ↦ let few : number < 36 = grind (arith, nat_tests) in rw small (omega (arith, few))
  | inr large ↦ rw large (omega arith)
]

period_within : (text : List ℕ) → unwrap_or (period_in text) 0 ≤ 35
unfolding period_in
period_within [] = omega arith
period_within (byte ∷ rest) = small_or_0 (list_all is_digit (byte ∷ rest)) (digits_value 10 (byte ∷ rest))

module _ (reader : CellReader) (are : IsCellReader reader) (row : Row) where
  part_within : (structure : Structure) (period tier : ℕ) (part : Part) → IsWithin (1000 * 10 ^ 18) (part_price reader row structure period tier part)
  part_within structure period tier part =
      number_within 1000 (part_cell row structure period tier part) _ (are.number_is 1000 (part_cell row structure period tier part))

  price_within : (structure : Structure) (period tier : ℕ) → IsWithin (2 * 10 ^ 21) (price_of reader row structure period tier)
  price_within structure period tier =
      sum_within (part_price reader row structure period tier Rate) (part_price reader row structure period tier Adj)
      (part_within structure period tier Rate) (part_within structure period tier Adj)

  -- the prices of a period's tiers
  pub prices_to : (structure : Structure) (period last : ℕ) → HasPrices (tiers_to reader row structure period last)
  unfolding tiers_to
  prices_to structure period zero = one_price (price_of reader row structure period 0) (price_within structure period 0)
  prices_to structure period (suc last) =
      let before : HasPrices (tiers_to reader row structure period last) = prices_to structure period last in
      elim (cases_Bool (has_tier row structure period (suc last))) [
        | inl there ↦
            rw there
            (prices_with (unwrap_or (end_of reader row structure period last) (pos 0)) (price_of reader row structure period (suc last))
            (tiers_to reader row structure period last) (price_within structure period (suc last)) before)
        | inr none ↦ rw none before
      ]

  -- what it pays for energy sent out
  pub sell_within : (structure : Structure) (period : ℕ) → IsWithin (2 * 10 ^ 21) (sell_of reader row structure period)
  sell_within structure period = by_tier (first_sell row structure period)
    where
      by_tier : (tier : Option ℕ) → IsWithin (2 * 10 ^ 21) (unwrap_or (option_map (λ tier. part_price reader row structure period tier Sell) tier) (pos 0))
      by_tier None = (omega (arith, ints), omega (arith, ints))
      by_tier (Some tier) = wider (part_price reader row structure period tier Sell) (part_within structure period tier Sell)

  -- where one of its tiers ends
  pub tier_end_within : (structure : Structure) (period tier : ℕ) (end : ℤ) → end_of reader row structure period tier ≡ Some end → end ≤ℤ pos (10 ^ 13)
  tier_end_within structure period tier end same =
      let cell = part_cell row structure period tier Max in
      end_within cell (reader.end cell) end (are.end_is cell) same

  -- a charge
  pub charge_within : (name unit_name : List ℕ) → IsCharge (charge_of reader row name unit_name)
  charge_within name unit_name = elim (cases_Bool (is_charged reader row name)) [
    | inl charged ↦
        rw charged
        (times_within (amount_in reader row name) (number_within charge_limit (named_cell row name) _ (are.number_is charge_limit (named_cell row name))))
    | inr none ↦ rw none (omega (arith, ints), omega (arith, ints))
  ]

  -- a minimum that isn't refused
  pub minimum_within : first_of (minimum_refusals reader row) ≡ None → ForSome (minimum_of reader row) IsMinimum
  unfolding minimum_of minimum_refusals
  minimum_within none charge is =
      let found = cond_some (is_charged reader row minimum_name) (charge_of reader row minimum_name minimum_unit_name) charge is in
      let unit = unit_at row minimum_unit_name in
      let yearly = (front_none (charge_refusals reader row minimum_name minimum_unit_name) (yearly_refusal reader row ∷ []) none).1 in
      let both = when_none (is_charged reader row minimum_name && is_year unit) _ yearly in
      let other = not_both (is_charged reader row minimum_name) (is_year unit) found.0 both in
      let unit_is : charge.unit ≡ unwrap_or unit Month = tells_unit reader row minimum_name minimum_unit_name charge (sym found.1) found.0 in
      record {
        size = subst IsCharge found.1 (charge_within minimum_name minimum_unit_name);
        unit = λ year. let same = is_yearly unit (sym unit_is ∙ year) in absurd (cc);
      }
    where
      not_both : (a b : Bool) → a ≡ true → (a && b) ≡ false → b ≡ false
      not_both true b one none = none
      not_both false b one none = absurd (let e : false ≡ true = one in cc)

  -- a month's ratchet
  pub ratchet_within : (month : ℕ) → ratchet_of reader row month ≤ 10 ^ 20
  ratchet_within month = elim (cases_Bool (is_filled (item_cell reader row Ratchets month))) [
    | inl given ↦
        let cell = item_cell reader row Ratchets month in
        rw given (fraction_within (month_number reader row month) (number_within fraction_limit cell _ (are.number_is fraction_limit cell)))
    | inr none ↦
        let cell = named_cell row lookback_name in
        rw none (fraction_within (named_number reader row fraction_limit lookback_name) (number_within fraction_limit cell _ (are.number_is fraction_limit cell)))
  ]

  -- a month's flat demand period
  pub flat_month_within : (month : ℕ) → flat_month reader row month ≤ 35
  flat_month_within month = period_within (item_cell reader row FlatPeriods month)

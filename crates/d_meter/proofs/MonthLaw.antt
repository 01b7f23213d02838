-- Accepted readings are those of a month.
use Rattle.std.proofs.Common.{◌≡◌, ◌∙◌, ◌*◌, ◌^◌, ◌==◌, ◌&&◌, not, nat_lt, ℕ, ℤ, Bool, true, false, List, ◌++◌, drop, get_or, Option, None, Some, Result, Ok, Err, refl, ap, subst, arith}
use Rattle.std.specs.Option.{is_none}
use Rattle.std.proofs.lemmas.Bool.Decides.{nat_tests}
use Rattle.std.proofs.lemmas.Int.{ints}
use Rattle.std.proofs.lemmas.List.{length-map, length-drop}
use Rattle.std.proofs.lemmas.List.Elements.{All-map}
use Rattle.jiff_core.specs.Calendar.{days_in_month}
use Rattle.d_num.specs.Amount.{IsWithin, IsReadingLength}
use Rattle.d_list.specs.Firsts.{first_of}
use Rattle.d_list.proofs.Firsts.{front_none}
use Rattle.d_table.specs.Table.{row_at, cell_in}
use Rattle.d_cal.specs.Calendar.{IsMonth}
use Rattle.d_cal.specs.declared.start.Start.{Start}
use Rattle.d_text.specs.declared.decimal.DecimalFault.{DecimalFault}
use Rattle.d_text.proofs.DecimalLaws.{decimal_within}
use Rattle.d_meter.specs.declared.fault.MeterFault.{MeterFault}
use Rattle.d_meter.specs.Meters.{Metered, IsReadings}
use Rattle.d_meter.specs.Readings.{MeterReader, IsMeterReader, IsStartOrNone, IsNetOrFault, start_at, known, is_header, begins_month, is_step, interval_count, month_refusals, head_refusals, all_row_refusals, readings_of, refused_or, outcome_of, net_of, net_or_0, row_count}
use Rattle.d_meter.specs.Law.{AcceptsMonths}
use Rattle.d_meter.proofs.OneReader.{one_reader}
use Rattle.d_meter.proofs.Sizes.{fills}
use Rattle.d_meter.proofs.Tests.{none_here}

-- a start that is known is in the calendar
known_month : (cell : List ℕ) (start : Option Start) → IsStartOrNone cell start → IsMonth (known start).year (known start).month
known_month cell None none = record { after_year_0 = omega (arith, ints); before_year_10000 = omega (arith, ints); from_january = omega arith; to_december = omega arith }
known_month cell (Some start) is = is.in_calendar.month

-- a net reading is small
net_small : (cell : List ℕ) (read : Result ℤ DecimalFault) → IsNetOrFault cell read → IsWithin (10 ^ 9) (net_or_0 read)
net_small cell (Ok net) is = decimal_within cell 0 (10 ^ 9) net is
net_small cell (Err fault) is = (omega (arith, ints), omega (arith, ints))

-- what a second start says of the length of intervals
step_length : (first second : Start) → is_step first second ≡ true → IsReadingLength second.minute
step_length first second is = second_true _ _ is
  where
    second_true : (a b : Bool) → (a && b) ≡ true → b ≡ true
    second_true true b both = both
    second_true false b both = absurd (let e : false ≡ true = both in cc)

-- numbers whose test holds are one
same_number : (a b : ℕ) → (a == b) ≡ true → a ≡ b
same_number a b test = grind (arith, nat_tests)

not_false : (a : Bool) → not a ≡ false → a ≡ true
not_false true e = refl
not_false false e = absurd (let f : true ≡ false = e in cc)

module _ (reader : MeterReader) (are : IsMeterReader reader) (rows : List (List (List ℕ))) (none : first_of (head_refusals reader rows) ≡ None) where
  first : Start
  first = known (start_at reader rows 0)

  second : Start
  second = known (start_at reader rows 1)

  -- no refusal of the month comes
  of_month : first_of (month_refusals first second (row_count rows)) ≡ None
  unfolding first second
  of_month =
      let shape = none_here (not (is_header (row_at rows 0))) _ _ none in
      let few = none_here (nat_lt (row_count rows) 2) _ _ shape.1 in
      let one = none_here (is_none (start_at reader rows 0)) _ _ few.1 in
      let two = none_here (is_none (start_at reader rows 1)) _ _ one.1 in
      two.1

  step : is_step first second ≡ true
  step =
      let begun = none_here (not (begins_month first)) _ _ of_month in
      let stepped = none_here (not (is_step first second)) _ _ begun.1 in
      not_false _ stepped.0

  count : row_count rows ≡ interval_count first.year first.month second.minute
  count =
      let begun = none_here (not (begins_month first)) _ _ of_month in
      let stepped = none_here (not (is_step first second)) _ _ begun.1 in
      let counted = none_here (not (row_count rows == interval_count first.year first.month second.minute)) _ _ stepped.1 in
      same_number _ _ (not_false _ counted.0)

  accepted : IsMonth (readings_of reader rows).year (readings_of reader rows).number
      × IsReadings (readings_of reader rows).year (readings_of reader rows).number (readings_of reader rows).minutes (readings_of reader rows).net
  unfolding readings_of first second
  accepted = (
    known_month _ (start_at reader rows 0) (are.start_is _),
    record {
      pace = step_length first second step;
      whole =
          ap (λ n. n * second.minute) (length-map (drop 1 rows) (net_of reader) ∙ length-drop 1 rows ∙ count)
          ∙ fills (days_in_month first.year first.month) second.minute (step_length first second step);
      small = All-map (IsWithin (10 ^ 9)) (net_of reader) (drop 1 rows) (λ k cells below. net_small _ (reader.net (cell_in (get_or (drop 1 rows) k cells) 1)) (are.net_is _));
    },
  )

pub accepts_months : AcceptsMonths
unfolding outcome_of
accepts_months rows metered is = by_first (first_of (head_refusals reader rows ++ all_row_refusals reader rows (readings_of reader rows))) refl (is reader are)
  where
    reader : MeterReader
    reader = one_reader.reader

    are : IsMeterReader reader
    are = one_reader.is_reader

    by_first : (found : Option MeterFault) → first_of (head_refusals reader rows ++ all_row_refusals reader rows (readings_of reader rows)) ≡ found
        → Ok metered ≡ refused_or found (readings_of reader rows)
        → IsMonth metered.year metered.number × IsReadings metered.year metered.number metered.minutes metered.net
    by_first None none same =
        let both : ◌≡◌ {A = Result Metered MeterFault} (Ok metered) (Ok (readings_of reader rows)) = same in
        let one : readings_of reader rows ≡ metered = cc in
        subst (λ (m : Metered). IsMonth m.year m.number × IsReadings m.year m.number m.minutes m.net) one
        (accepted reader are rows (front_none (head_refusals reader rows) (all_row_refusals reader rows (readings_of reader rows)) none).0)
    by_first (Some refused) some same = let both : ◌≡◌ {A = Result Metered MeterFault} (Ok metered) (Err refused) = same in absurd (cc)

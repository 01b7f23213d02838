-- The outcome of a table by its first refusal.
use Rattle.std.proofs.Common.{◌≡◌, ◌∙◌, ℕ, ℤ, List, ◌++◌, map, drop, Option, Ok, Err, inl, inr, ◌⊎◌, refl, sym, ap}
use Rattle.d_list.specs.Firsts.{first_of, each}
use Rattle.d_list.proofs.Firsts.{none_before, some_before}
use Rattle.d_meter.specs.declared.fault.MeterFault.{MeterFault}
use Rattle.d_meter.specs.declared.fault.MeterFault.TheVariants as fault
use Rattle.d_meter.specs.Meters.{Metered}
use Rattle.d_meter.specs.Readings.{MeterReader, IsMeterReader, net_of, row_count, row_refusals, head_refusals, all_row_refusals, readings_of, refused_or, outcome_of, IsOutcome}
use Rattle.d_meter.specs.Checks.{Reads, Passes, Refuses, IsHead}

module _ (rows : List (List (List ℕ))) where
  -- refused before the rows are gone through
  pub head_refused : (refused : MeterFault) → Refuses (λ reader. head_refusals reader rows) refused → IsOutcome rows (Err refused)
  unfolding outcome_of
  head_refused refused refuses = λ reader are.
      let first = some_before (head_refusals reader rows) (all_row_refusals reader rows (readings_of reader rows)) refused (refuses reader are) in
      sym (ap (λ (first : Option MeterFault). refused_or first (readings_of reader rows)) first)

  module _ (year : ℤ) (number minutes : ℕ) (passes : Passes (λ reader. head_refusals reader rows)) (head : IsHead rows year number minutes) where
    -- the rows' refusals are those of the month that the first starts say
    same_rows : (reader : MeterReader) → IsMeterReader reader
        → first_of (head_refusals reader rows ++ all_row_refusals reader rows (readings_of reader rows))
        ≡ first_of (each (row_count rows) (row_refusals reader rows year number minutes))
    unfolding readings_of
    same_rows reader are =
        none_before (head_refusals reader rows) (all_row_refusals reader rows (readings_of reader rows)) (passes reader are)
        ∙ rw (head.year_is reader are, head.number_is reader are, head.minutes_is reader are) refl

    -- a row is refused
    pub row_refused : (refused : MeterFault) → Refuses (λ reader. each (row_count rows) (row_refusals reader rows year number minutes)) refused
        → IsOutcome rows (Err refused)
    unfolding outcome_of
    row_refused refused refuses = λ reader are.
        sym (ap (λ (first : Option MeterFault). refused_or first (readings_of reader rows)) (same_rows reader are ∙ refuses reader are))

    -- so is it where memory was wanted or not
    pub rows_refused : (refused : MeterFault)
        → (refused ≡ fault.Memory) ⊎ Refuses (λ reader. each (row_count rows) (row_refusals reader rows year number minutes)) refused
        → (refused ≡ fault.Memory) ⊎ IsOutcome rows (Err refused)
    rows_refused refused (inl memory) = inl memory
    rows_refused refused (inr refuses) = inr (row_refused refused refuses)

    -- the readings are those of that month
    same_readings : (net : List ℤ) → Reads (λ reader. map (net_of reader) (drop 1 rows)) net → (reader : MeterReader) → IsMeterReader reader
        → readings_of reader rows ≡ record { year = year; number = number; minutes = minutes; net = net }
    unfolding readings_of
    same_readings net read reader are = rw (head.year_is reader are, head.number_is reader are, head.minutes_is reader are, read reader are) refl

    -- nothing is refused
    pub all_read : (net : List ℤ) → Passes (λ reader. each (row_count rows) (row_refusals reader rows year number minutes))
        → Reads (λ reader. map (net_of reader) (drop 1 rows)) net
        → IsOutcome rows (Ok (record { year = year; number = number; minutes = minutes; net = net }))
    unfolding outcome_of
    all_read net none read = λ reader are.
        sym (ap (λ (first : Option MeterFault). refused_or first (readings_of reader rows)) (same_rows reader are ∙ none reader are)
        ∙ ap (λ (m : Metered). Ok m) (same_readings net read reader are))

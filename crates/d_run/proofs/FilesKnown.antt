-- Each file's rows have one value, or one refusal.
use Rattle.std.proofs.Common.{◌≡◌, ◌⊎◌, inl, inr, ℕ, ℤ, List, Result, Ok, Err, refl, ap, sym, ◌∙◌}
use Rattle.d_tariff.specs.Terms.{Terms}
use Rattle.d_urdb.specs.declared.rule.RuleChoice.{RuleChoice}
use Rattle.d_urdb.proofs.TariffLaw.{accepts_tariffs, accepts_tables, accepts_grids}
use Rattle.d_meter.specs.Meters.{Metered}
use Rattle.d_meter.specs.Readings as readings
use Rattle.d_meter.specs.declared.fault.MeterFault.TheVariants as meter_fault
use Rattle.d_meter.proofs.MonthLaw.{accepts_months}
use Rattle.d_meter.proofs.OneReader.{one_outcome as one_month}
use Rattle.d_batt.specs.Storage.{Storage, IsStorage}
use Rattle.d_batt.specs.BatteryFile as battery
use Rattle.d_batt.specs.declared.fault.BatteryFault.TheVariants as battery_fault
use Rattle.d_batt.proofs.Accepted.{accepts as accepts_batteries}
use Rattle.d_batt.proofs.Readers.{one_outcome as one_battery}
use Rattle.d_bill.proofs.JoinLaw.{joins_in_range}
use Rattle.d_table.specs.Table.{IsRectangular}
use Rattle.d_bill.specs.declared.schedule.ScheduleFault.{ScheduleFault}
use Rattle.d_bill.specs.declared.schedule.ScheduleFault.TheVariants.{Shape}
use Rattle.d_bill.specs.Inputs.{Inputs, IsInRange}
use Rattle.d_bill.specs.ScheduleLaw.{HasOneSchedule, HasOneFault}
use Rattle.d_bill.proofs.ScheduleFound.{read_once}
use Rattle.d_bill.proofs.Deciding.{Decided, holds, fails}
use Rattle.d_run.specs.Record.{IsRecord, rows_with_label}
use Rattle.d_run.specs.Answer.{Answer, refused, RefusesRows, MeansRows, RefusesReadings, MeansReadings, RefusesBattery, MeansBattery, RefusesSchedule, MeansSchedule, joined}
use Rattle.d_run.specs.declared.fault.Refusal.{Refusal}
use Rattle.d_run.specs.declared.fault.Refusal.TheVariants.{Readings, Battery, Schedule}
use Rattle.d_run.proofs.RecordFound.{even_decided}
use Rattle.d_run.proofs.StageFacts.{IsKnown, known_refused, known_value}

-- each list of rows has one outcome, and no other
abbrev HasOneOutcome : {V F : Type 0} → (List (List (List ℕ)) → Result V F → Type 0) → Type 0
HasOneOutcome {V} {F} IsOutcome =
    (rows : List (List (List ℕ))) → (outcome : Result V F) × IsOutcome rows outcome × ((other : Result V F) → IsOutcome rows other → other ≡ outcome)

-- rows that have one outcome mean one thing, or are refused for one cause
module _ {V F : Type 0} (IsOutcome : List (List (List ℕ)) → Result V F → Type 0) (shape : F) (by : F → Refusal) (law : HasOneOutcome IsOutcome)
    (rows : List (List (List ℕ))) where
  rows_known : IsKnown (RefusesRows IsOutcome shape by rows) (MeansRows IsOutcome rows)
  rows_known = by_shape (even_decided rows)
    where
      same_fault : (one other : F) → IsOutcome rows (Err one) → IsOutcome rows (Err other) → other ≡ one
      same_fault one other is is_other =
          let only = (law rows).2 in
          let both : Err other ≡ Err one = only (Err other) is_other ∙ sym (only (Err one) is) in
          cc

      same_value : (one other : V) → IsOutcome rows (Ok one) → IsOutcome rows (Ok other) → other ≡ one
      same_value one other is is_other =
          let only = (law rows).2 in
          let both : Ok other ≡ Ok one = only (Ok other) is_other ∙ sym (only (Ok one) is) in
          cc

      not_both : (fault : F) (value : V) → IsOutcome rows (Err fault) → IsOutcome rows (Ok value) → ⊥
      not_both fault value is is_value =
          let only = (law rows).2 in
          let both : Ok value ≡ Err fault = only (Ok value) is_value ∙ sym (only (Err fault) is) in
          cc

      shape_only : (IsRectangular rows → ⊥) → (end : Answer) → RefusesRows IsOutcome shape by rows end → end ≡ refused (by shape)
      shape_only none end (inl other) = other.1
      shape_only none end (inr fault) = absurd (none fault.1)

      fault_only : IsRectangular rows → (fault : F) → IsOutcome rows (Err fault) → (end : Answer) → RefusesRows IsOutcome shape by rows end
          → end ≡ refused (by fault)
      fault_only even fault is end (inl other) = absurd (other.0 even)
      fault_only even fault is end (inr other) = other.3 ∙ ap (λ (f : F). refused (by f)) (same_fault fault other.0 is other.2)

      not_refused : IsRectangular rows → (value : V) → IsOutcome rows (Ok value) → (end : Answer) → RefusesRows IsOutcome shape by rows end → ⊥
      not_refused even value is end (inl other) = other.0 even
      not_refused even value is end (inr other) = not_both other.0 value other.2 is

      by_outcome : IsRectangular rows → (outcome : Result V F) → IsOutcome rows outcome → IsKnown (RefusesRows IsOutcome shape by rows) (MeansRows IsOutcome rows)
      by_outcome even (Ok value) is = known_value value (even, is) (λ other means. same_value value other is means.1) (not_refused even value is)
      by_outcome even (Err fault) is = known_refused (refused (by fault)) (inr (fault, even, is, refl)) (fault_only even fault is) (λ value means. not_both fault value is means.1)

      by_shape : Decided (IsRectangular rows) → IsKnown (RefusesRows IsOutcome shape by rows) (MeansRows IsOutcome rows)
      by_shape (holds even) = by_outcome even (law rows).0 (law rows).1
      by_shape (fails none) = known_refused (refused (by shape)) (inl (none, refl)) (shape_only none) (λ value means. none means.0)

-- readings are one month's or refused
pub month_known : (rows : List (List (List ℕ))) → IsKnown (RefusesReadings rows) (MeansReadings rows)
month_known rows = rows_known readings.IsOutcome meter_fault.Shape Readings one_month rows

-- a battery is one or refused
pub battery_known : (rows : List (List (List ℕ))) → IsKnown (RefusesBattery rows) (MeansBattery rows)
battery_known rows = rows_known battery.IsOutcome battery_fault.Shape Battery one_battery rows

-- a battery file means a battery
pub battery_is : (rows : List (List (List ℕ))) (storage : Storage) → MeansBattery rows storage → IsStorage storage
battery_is rows storage means = accepts_batteries rows storage means.1

-- a schedule is one or refused for one cause
pub schedule_known : (i : Inputs) (rows : List (List (List ℕ))) → IsStorage i.storage → IsKnown (RefusesSchedule i rows) (MeansSchedule i rows)
schedule_known i rows fine = by_shape (even_decided rows)
  where
    shape_only : (IsRectangular rows → ⊥) → (other : Answer) → RefusesSchedule i rows other → other ≡ refused (Schedule Shape)
    shape_only none other (inl shape) = shape.1
    shape_only none other (inr fault) = absurd (none fault.1)

    fault_only : IsRectangular rows → (one : HasOneFault i rows) → (other : Answer) → RefusesSchedule i rows other → other ≡ refused (Schedule one.fault)
    fault_only even one other (inl shape) = absurd (shape.0 even)
    fault_only even one other (inr fault) = fault.3 ∙ ap (λ (f : ScheduleFault). refused (Schedule f)) (one.only fault.0 fault.2)

    not_refused : IsRectangular rows → (one : HasOneSchedule i rows) → (end : Answer) → RefusesSchedule i rows end → ⊥
    not_refused even one end (inl shape) = shape.0 even
    not_refused even one end (inr fault) = one.right fault.0 fault.2

    by_law : IsRectangular rows → HasOneSchedule i rows ⊎ HasOneFault i rows → IsKnown (RefusesSchedule i rows) (MeansSchedule i rows)
    by_law even (inl one) = known_value one.schedule (even, one.is) (λ other means. one.only other means.1) (not_refused even one)
    by_law even (inr one) = known_refused (refused (Schedule one.fault)) (inr (one.fault, even, one.is, refl)) (fault_only even one) (λ value means. one.none value means.1)

    by_shape : Decided (IsRectangular rows) → IsKnown (RefusesSchedule i rows) (MeansSchedule i rows)
    by_shape (holds even) = by_law even (read_once i rows fine)
    by_shape (fails none) = known_refused (refused (Schedule Shape)) (inl (none, refl)) (shape_only none) (λ value means. none means.0)

-- what a record, readings and a battery mean is in range
pub joined_in_range : (records readings : List (List (List ℕ))) (label : List ℕ) (rule : RuleChoice) (terms : Terms) (metered : Metered) (prior : ℤ) (storage : Storage)
    → IsRecord records label rule terms → MeansReadings readings metered → IsStorage storage → IsInRange (joined terms metered prior storage)
joined_in_range records readings label rule terms metered prior storage record_is month_is storage_is =
    let kept = rows_with_label label records in
    let month = accepts_months readings metered month_is.1 in
    joins_in_range terms metered storage prior
    (accepts_tariffs kept label rule terms record_is.is) (accepts_tables kept label rule terms record_is.is) (accepts_grids kept label rule terms record_is.is)
    month.0 month.1 storage_is

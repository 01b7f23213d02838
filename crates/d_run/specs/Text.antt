-- The texts that are printed beside plans and bills. All forms are our own.
use Rattle.std.specs.Prelude.{ℕ, List, [], ◌∷◌, ◌++◌, codes}
use Rattle.std.specs.Fmt.{decimal}
use Rattle.d_meter.specs.declared.fault.MeterFault.{MeterFault}
use Rattle.d_meter.specs.declared.fault.MeterFault.TheVariants as meter
use Rattle.d_batt.specs.declared.fault.BatteryFault.{BatteryFault}
use Rattle.d_batt.specs.declared.fault.BatteryFault.TheVariants as battery
use Rattle.d_bill.specs.declared.schedule.ScheduleFault.{ScheduleFault}
use Rattle.d_bill.specs.declared.schedule.ScheduleFault.TheVariants.{Shape, Count, Start, Mode as NoMode}
use Rattle.d_report.specs.Lines.{line}

-- the text where a schedule breaks a rule first in this interval
abbrev pub break_text : ℕ → List ℕ
break_text t = line (codes "not feasible at interval " ++ decimal t)

-- why a readings file is refused; want of memory is no refusal
abbrev pub meter_fault_text : MeterFault → List ℕ
meter_fault_text meter.Shape = codes "1 Shape"
meter_fault_text (meter.Start row) = codes "2 Start " ++ decimal row
meter_fault_text (meter.Order row) = codes "3 Order " ++ decimal row
meter_fault_text meter.Step = codes "4 Step"
meter_fault_text (meter.Count have need) = codes "5 Count " ++ decimal have ++ 32 ∷ decimal need
meter_fault_text (meter.Number row) = codes "6 Number " ++ decimal row
meter_fault_text (meter.TooLarge row) = codes "7 TooLarge " ++ decimal row
meter_fault_text meter.Memory = []

-- why a battery file is refused; want of memory is no refusal
abbrev pub battery_fault_text : BatteryFault → List ℕ
battery_fault_text battery.Shape = codes "1 Shape"
battery_fault_text (battery.Unknown row) = codes "2 Unknown " ++ decimal row
battery_fault_text battery.Missing = codes "3 Missing capacity"
battery_fault_text (battery.Twice row) = codes "4 Twice " ++ decimal row
battery_fault_text (battery.Number row) = codes "5 Number " ++ decimal row
battery_fault_text (battery.Range row) = codes "6 Range " ++ decimal row
battery_fault_text battery.NoModes = codes "7 NoModes"
battery_fault_text (battery.TooMany row) = codes "8 TooMany " ++ decimal row
battery_fault_text battery.Memory = []

-- why a schedule file is refused
abbrev pub schedule_fault_text : ScheduleFault → List ℕ
schedule_fault_text Shape = codes "1 Shape"
schedule_fault_text (Count have need) = codes "2 Count " ++ decimal have ++ 32 ∷ decimal need
schedule_fault_text (Start row) = codes "3 Start " ++ decimal row
schedule_fault_text (NoMode row) = codes "4 Mode " ++ decimal row

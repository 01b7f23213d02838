-- What the program answers to a list of words, given the files: a verdict, the text that it prints, and the files that it opens.
-- The files are read one after the other, and the first that is too long or refused decides.
use Rattle.std.specs.Prelude.{◌≡◌, ◌⊎◌, ℕ, ◌+◌, ◌-◌, ◌^◌, ◌<◌, ◌≤◌, ◌++◌, Bool, true, false, ℤ, pos, ◌≤ℤ◌, ◌<ℤ◌, Option, Some, None, List, [], ◌∷◌, length, codes, Result, Ok, Err}
use Rattle.d_desk.specs.Scene.{Files, Opening, opening, bytes_in}
use Rattle.d_desk.specs.declared.opened.Direction.TheVariants.{In}
use Rattle.std.specs.Fmt.{decimal}
use Rattle.d_table.specs.Table.{rows_of, IsRectangular, IsFirstOdd}
use Rattle.d_tariff.specs.Terms.{Terms}
use Rattle.d_urdb.specs.declared.fault.Refused.{Refused}
use Rattle.d_urdb.specs.declared.rule.RuleChoice.{RuleChoice}
use Rattle.d_urdb.specs.declared.rule.RuleChoice.TheVariants.{AsRecorded, NetBilling}
use Rattle.d_bill.specs.declared.schedule.ScheduleFault.{ScheduleFault}
use Rattle.d_bill.specs.declared.schedule.ScheduleFault.TheVariants.{Shape}
use Rattle.d_meter.specs.Meters.{Metered}
use Rattle.d_meter.specs.Readings as readings
use Rattle.d_meter.specs.declared.fault.MeterFault.{MeterFault}
use Rattle.d_meter.specs.declared.fault.MeterFault.TheVariants as meter_fault
use Rattle.d_batt.specs.Storage.{Storage}
use Rattle.d_batt.specs.BatteryFile as battery
use Rattle.d_batt.specs.declared.fault.BatteryFault.{BatteryFault}
use Rattle.d_batt.specs.declared.fault.BatteryFault.TheVariants as battery_fault
use Rattle.d_bill.specs.Inputs.{Inputs}
use Rattle.d_bill.specs.Schedules.{IsFeasible, IsFirstBreak}
use Rattle.d_bill.specs.Bills.{bill_of, IsLeast}
use Rattle.d_bill.specs.Join.{join_of, IsSettled}
use Rattle.d_bill.specs.Slopes.{tiered}
use Rattle.d_bill.specs.Totals.{tally_of, metered_tally}
use Rattle.d_bill.specs.ScheduleFile.{IsScheduleFile, IsScheduleFault}
use Rattle.d_search.specs.Budgets.{product, IsDefaultBudget}
use Rattle.d_search.specs.Problems.{IsSearched}
use Rattle.d_search.specs.declared.outcome.Outcome.{Outcome}
use Rattle.d_search.specs.declared.outcome.Verdict.{Verdict as Ending}
use Rattle.d_search.specs.declared.outcome.Verdict.TheVariants as ending
use Rattle.d_words.specs.Words.{Asked, Wanted, IsRequest, plan_with, metered_bill as wants_metered_bill, schedule_bill}
use Rattle.d_words.specs.Shows.{Seen, IsShow}
use Rattle.d_run.specs.Record.{IsRecord, IsRecordFault, rows_with_label}
use Rattle.d_run.specs.RecordText.{record_text, hourly_text}
use Rattle.d_report.specs.Lines.{line}
use Rattle.d_report.specs.Charges.{bill_text}
use Rattle.d_report.specs.Plans.{plan_text}
use Rattle.d_report.specs.Tariffs.{tariff_text}
use Rattle.d_report.specs.declared.finding.Finding.{Finding}
use Rattle.d_report.specs.declared.finding.Found.{Found}
use Rattle.d_report.specs.declared.finding.Found.TheVariants as found
use Rattle.d_run.specs.Text.{break_text, meter_fault_text, battery_fault_text, schedule_fault_text}
use Rattle.d_run.specs.declared.verdict.Verdict.{Verdict}
use Rattle.d_run.specs.declared.verdict.Verdict.TheVariants as verdict
use Rattle.d_run.specs.declared.fault.Refusal.{Refusal}
use Rattle.d_run.specs.declared.fault.Refusal.TheVariants.{Words, LongRecord, RecordShape, LongReadings, Readings, TiersNotYet, LongBattery, Battery, Product, LongSchedule, Schedule}

-- a file that is written: its name, and its bytes once it is closed
pub record Written : Type 0 where
  pub name : List ℕ
  pub bytes : List ℕ

-- a verdict, the text that is printed, the files that are opened, in order, and those that are written, in the order in which they are closed
pub record Answer : Type 0 where
  pub verdict : Verdict
  pub text : List ℕ
  pub openings : List Opening
  pub written : List Written

-- an answer that opens nothing and writes nothing
abbrev pub says : Verdict → List ℕ → Answer
says v text = record { verdict = v; text = text; openings = []; written = [] }

-- an answer after this file was opened for reading
abbrev pub after_opening : List ℕ → Answer → Answer
after_opening name answer = record answer { openings = opening In name ∷ answer.openings }

-- the verdict of a refusal
abbrev pub refusal_verdict : Refusal → Verdict
refusal_verdict Words = verdict.Words
refusal_verdict LongRecord = verdict.Record
refusal_verdict (RecordShape row) = verdict.Record
refusal_verdict LongReadings = verdict.Readings
refusal_verdict (Readings fault) = verdict.Readings
refusal_verdict TiersNotYet = verdict.Record
refusal_verdict LongBattery = verdict.Battery
refusal_verdict (Battery fault) = verdict.Battery
refusal_verdict (Product size) = verdict.Words
refusal_verdict LongSchedule = verdict.Battery
refusal_verdict (Schedule fault) = verdict.Battery

-- the text of a refusal
abbrev pub refusal_text : Refusal → List ℕ
refusal_text Words = line (codes "refused words 23 NotYet")
refusal_text LongRecord = line (codes "refused record 0 TooLong")
refusal_text (RecordShape row) = line (codes "refused record 0 Shape " ++ decimal row)
refusal_text LongReadings = line (codes "refused readings 0 TooLong")
refusal_text (Readings fault) = line (codes "refused readings " ++ meter_fault_text fault)
refusal_text TiersNotYet = line (codes "refused record 23 NotYet none 3")
refusal_text LongBattery = line (codes "refused battery 0 TooLong")
refusal_text (Battery fault) = line (codes "refused battery " ++ battery_fault_text fault)
refusal_text (Product size) = line (codes "refused words 7 Product " ++ decimal size)
refusal_text LongSchedule = line (codes "refused schedule 0 TooLong")
refusal_text (Schedule fault) = line (codes "refused schedule " ++ schedule_fault_text fault)

-- the answer to what is refused
abbrev pub refused : Refusal → Answer
refused refusal = says (refusal_verdict refusal) (refusal_text refusal)

-- the greatest size of a record file, in bytes
abbrev pub longest_record : ℕ
longest_record = 2 ^ 30

-- the greatest size of a readings, battery or schedule file, in bytes
abbrev pub longest_file : ℕ
longest_file = 2 ^ 24

-- a file in an answer: it is opened, and above its limit or refused by its rows it ends the answer; else its value goes on
pub data Reads {V : Type 0} (files : Files) (name : List ℕ) (limit : ℕ) (too_long : Refusal) (Refuses : Answer → Type 0) (Means : V → Type 0)
    (Next : V → Answer → Type 0) (answer : Answer) : Type 0 where
  is_too_long : limit < length (bytes_in files name) → answer ≡ after_opening name (refused too_long)
      → Reads files name limit too_long Refuses Means Next answer
  is_refused : length (bytes_in files name) ≤ limit → (end : Answer) → Refuses end → answer ≡ after_opening name end
      → Reads files name limit too_long Refuses Means Next answer
  goes_on : length (bytes_in files name) ≤ limit → (value : V) → Means value → (rest : Answer) → Next value rest → answer ≡ after_opening name rest
      → Reads files name limit too_long Refuses Means Next answer

-- a file's rows
abbrev pub rows_in : Files → List ℕ → List (List (List ℕ))
rows_in files name = rows_of (bytes_in files name)

-- a record file is refused by its first row of another length, or its record is
abbrev pub RefusesRecord : List (List (List ℕ)) → List ℕ → RuleChoice → Answer → Type 0
RefusesRecord rows label rule end = ((row : ℕ) × IsFirstOdd rows row × (end ≡ refused (RecordShape row)))
    ⊎ ((fault : Refused) × IsRecordFault rows label rule fault × (end ≡ says verdict.Record (record_text (rows_with_label label rows) fault)))

-- a file's rows are refused where they differ in length, or by the first check that fails
abbrev pub RefusesRows : {V F : Type 0} → (List (List (List ℕ)) → Result V F → Type 0) → F → (F → Refusal) → List (List (List ℕ)) → Answer → Type 0
RefusesRows {V} {F} IsOutcome shape by rows end = ((IsRectangular rows → ⊥) × (end ≡ refused (by shape)))
    ⊎ ((fault : F) × IsRectangular rows × IsOutcome rows (Err fault) × (end ≡ refused (by fault)))

-- rows of one length mean the value that comes of them
abbrev pub MeansRows : {V F : Type 0} → (List (List (List ℕ)) → Result V F → Type 0) → List (List (List ℕ)) → V → Type 0
MeansRows IsOutcome rows value = IsRectangular rows × IsOutcome rows (Ok value)

-- readings are refused
abbrev pub RefusesReadings : List (List (List ℕ)) → Answer → Type 0
RefusesReadings = RefusesRows {V = Metered} {F = MeterFault} readings.IsOutcome meter_fault.Shape Readings

-- or mean those of a month
abbrev pub MeansReadings : List (List (List ℕ)) → Metered → Type 0
MeansReadings = MeansRows {V = Metered} {F = MeterFault} readings.IsOutcome

-- a battery is refused
abbrev pub RefusesBattery : List (List (List ℕ)) → Answer → Type 0
RefusesBattery = RefusesRows {V = Storage} {F = BatteryFault} battery.IsOutcome battery_fault.Shape Battery

-- or rows mean one
abbrev pub MeansBattery : List (List (List ℕ)) → Storage → Type 0
MeansBattery = MeansRows {V = Storage} {F = BatteryFault} battery.IsOutcome

-- a schedule is refused by its rows' lengths, or by the first check that fails
abbrev pub RefusesSchedule : Inputs → List (List (List ℕ)) → Answer → Type 0
RefusesSchedule i rows end = ((IsRectangular rows → ⊥) × (end ≡ refused (Schedule Shape)))
    ⊎ ((fault : ScheduleFault) × IsRectangular rows × IsScheduleFault i rows fault × (end ≡ refused (Schedule fault)))

-- rows of one length are a schedule
abbrev pub MeansSchedule : Inputs → List (List (List ℕ)) → List ℕ → Type 0
MeansSchedule i rows schedule = IsRectangular rows × IsScheduleFile i rows schedule

-- the record file in an answer
abbrev pub ReadsRecord : Files → List ℕ → List ℕ → RuleChoice → (Terms → Answer → Type 0) → Answer → Type 0
ReadsRecord files name label rule Next answer =
    Reads files name longest_record LongRecord (RefusesRecord (rows_in files name) label rule) (IsRecord (rows_in files name) label rule) Next answer

-- the readings file in an answer
abbrev pub ReadsReadings : Files → List ℕ → (Metered → Answer → Type 0) → Answer → Type 0
ReadsReadings files name Next answer =
    Reads files name longest_file LongReadings (RefusesReadings (rows_in files name)) (MeansReadings (rows_in files name)) Next answer

-- the battery file in an answer
abbrev pub ReadsBattery : Files → List ℕ → (Storage → Answer → Type 0) → Answer → Type 0
ReadsBattery files name Next answer =
    Reads files name longest_file LongBattery (RefusesBattery (rows_in files name)) (MeansBattery (rows_in files name)) Next answer

-- the schedule file in an answer
abbrev pub ReadsSchedule : Files → List ℕ → Inputs → (List ℕ → Answer → Type 0) → Answer → Type 0
ReadsSchedule files name i Next answer =
    Reads files name longest_file LongSchedule (RefusesSchedule i (rows_in files name)) (MeansSchedule i (rows_in files name)) Next answer

-- what is planned or billed: a tariff's terms, a month of readings, the highest flat demand of earlier months, and a battery
abbrev pub joined : Terms → Metered → ℤ → Storage → Inputs
joined terms metered prior storage = join_of terms metered storage prior

-- where energy is settled hour by hour and there isn't a reading an hour, the record is refused with this text; else the answer goes on
pub data Settles (text : List ℕ) (terms : Terms) (metered : Metered) (Next : Answer → Type 0) (answer : Answer) : Type 0 where
  unsettled : (IsSettled terms metered → ⊥) → answer ≡ says verdict.Record text → Settles text terms metered Next answer
  settled : IsSettled terms metered → Next answer → Settles text terms metered Next answer

-- no battery: no level but 0, and one mode that changes nothing
abbrev pub no_storage : Storage
no_storage = record {
  floor = 0;
  capacity = 0;
  start = 0;
  end = 0;
  max_import = pos (10 ^ 10);
  max_export = pos (10 ^ 10);
  modes = record { name = codes "idle"; change = pos 0; grid = pos 0; low = 0; high = 255 } ∷ [];
}

-- how many levels a battery has
abbrev pub levels_of : Storage → ℕ
levels_of storage = storage.capacity - storage.floor + 1

-- how many boxes the search for a plan may make: as many as the words give, or else the default for its intervals and levels
abbrev pub IsBudgetOf : Inputs → Option ℕ → ℕ → Type 0
IsBudgetOf i None budget = IsDefaultBudget (length i.net) (levels_of i.storage) budget
IsBudgetOf i (Some given) budget = budget ≡ given

-- the product of the sizes of a search: its budget, its intervals and its levels
abbrev pub product_for : Inputs → ℕ → ℕ
product_for i budget = product budget (length i.net) (levels_of i.storage)

-- a plan is searched for where the product of the sizes is at most 2^24; else the words are refused, with that product
pub data IsWithinSizes (i : Inputs) (budget : ℕ) (Next : Answer → Type 0) (answer : Answer) : Type 0 where
  is_too_large : 2 ^ 24 < product_for i budget → answer ≡ refused (Product (product_for i budget)) → IsWithinSizes i budget Next answer
  is_within : product_for i budget ≤ 2 ^ 24 → Next answer → IsWithinSizes i budget Next answer

-- what a plan's text says of the outcome of a search: whether the bill is the least, the bound of the bills, and the number of boxes
abbrev pub finding : Found → Outcome → Finding
finding found o = record { found = found; lower = o.lower; boxes = length o.tree }

-- the gap that a search left, where it left one: more boxes may close it, or no number of boxes does
abbrev pub gap_of : Ending → Option Found
gap_of ending.Least = None
gap_of ending.GapBudget = Some found.GapBudget
gap_of ending.GapDuality = Some found.GapDuality
gap_of ending.Infeasible = None

-- the schedule is feasible, and no feasible schedule has a bill below the bound, which is below the bill of this one
pub record IsBetween (i : Inputs) (o : Outcome) : Type 0 where
  pub feasible : IsFeasible i o.schedule
  pub lower : ℤ
  pub lower_is : o.lower ≡ Some lower
  pub bound : (z : List ℕ) → IsFeasible i z → lower ≤ℤ bill_of i z
  pub below : lower <ℤ bill_of i o.schedule

-- the answer where a search may make so many boxes: no schedule is feasible; or the schedule that it found has the least bill of all; or
-- that isn't known, and the bill lies above a bound of all bills
pub data IsPlanned (i : Inputs) (budget : ℕ) (label : List ℕ) (answer : Answer) : Type 0 where
  no_schedule : (o : Outcome) → IsSearched i budget o → o.verdict ≡ ending.Infeasible → ((z : List ℕ) → IsFeasible i z → ⊥)
      → answer ≡ says verdict.NoSchedule (line (codes "no schedule")) → IsPlanned i budget label answer
  least : (o : Outcome) → IsSearched i budget o → o.verdict ≡ ending.Least → IsLeast i o.schedule
      → answer ≡ says verdict.Done (plan_text i label o.schedule (finding found.Least o)) → IsPlanned i budget label answer
  gap : (o : Outcome) → IsSearched i budget o → (found : Found) → gap_of o.verdict ≡ Some found → IsBetween i o
      → answer ≡ says verdict.Gap (plan_text i label o.schedule (finding found o)) → IsPlanned i budget label answer

-- the answer to a request for a plan where the problem is known, and the budget that the words give
pub record IsPlanFor (i : Inputs) (given : Option ℕ) (label : List ℕ) (answer : Answer) : Type 0 where
  pub budget : ℕ
  pub budget_is : IsBudgetOf i given budget
  pub planned : IsWithinSizes i budget (IsPlanned i budget label) answer

-- a month is planned where none of its energy periods is tiered; others are refused, and this is told before a battery is looked at
pub data IsPlannable (i : Inputs) (Next : Answer → Type 0) (answer : Answer) : Type 0 where
  has_tiers : (tiered i ≡ [] → ⊥) → answer ≡ refused TiersNotYet → IsPlannable i Next answer
  is_untiered : tiered i ≡ [] → Next answer → IsPlannable i Next answer

-- the answer to a request for the bill of a schedule: the bill, or the first interval in which it breaks a rule
pub data IsBilled (i : Inputs) (label schedule : List ℕ) (answer : Answer) : Type 0 where
  billed : IsFeasible i schedule → answer ≡ says verdict.Done (bill_text i label (tally_of i schedule)) → IsBilled i label schedule answer
  broken : (t : ℕ) → IsFirstBreak i schedule t → answer ≡ says verdict.NoSchedule (break_text t) → IsBilled i label schedule answer

-- the answer to a request for the bill of the readings alone
abbrev pub IsMeteredBill : Inputs → List ℕ → Answer → Type 0
IsMeteredBill i label answer = answer ≡ says verdict.Done (bill_text i label (metered_tally i))

-- the answer where the problem of the month is known but for the battery
abbrev pub IsFor : Files → List ℕ → (Storage → Inputs) → Wanted → Answer → Type 0
IsFor files label problem (plan_with battery given) answer =
    IsPlannable (problem no_storage) (ReadsBattery files battery (λ storage. IsPlanFor (problem storage) given label)) answer
IsFor files label problem wants_metered_bill answer = IsMeteredBill (problem no_storage) label answer
IsFor files label problem (schedule_bill battery schedule) answer =
    ReadsBattery files battery (λ storage. ReadsSchedule files schedule (problem storage) (IsBilled (problem storage) label)) answer

-- the answer where the terms are known, and the text of a record whose energy can't be settled
abbrev pub IsWithTerms : Files → Asked → List ℕ → Terms → Answer → Type 0
IsWithTerms files asked unsettled_text terms answer =
    ReadsReadings files asked.readings
    (λ metered. Settles unsettled_text terms metered (IsFor files asked.label (joined terms metered asked.prior_peak) asked.wanted)) answer

-- the rule of billing: net billing where it is chosen, else the record's own
abbrev pub rule_of : Bool → RuleChoice
rule_of true = NetBilling
rule_of false = AsRecorded

-- the header and the rows of a record's label, in a file
abbrev pub labelled_in : Files → List ℕ → List ℕ → List (List (List ℕ))
labelled_in files name label = rows_with_label label (rows_in files name)

-- the answer to a request
abbrev pub IsAnswerTo : Files → Asked → Answer → Type 0
IsAnswerTo files asked answer =
    ReadsRecord files asked.records asked.label (rule_of asked.net_billing)
    (IsWithTerms files asked (hourly_text (labelled_in files asked.records asked.label))) answer

-- the answer where the terms to show are known, and the rows with their label
abbrev pub IsTariffOf : List (List (List ℕ)) → List ℕ → Terms → Answer → Type 0
IsTariffOf rows label terms answer = answer ≡ says verdict.Done (tariff_text rows label terms)

-- the answer to words that ask to see a record's tariff
abbrev pub IsShownTo : Files → Seen → Answer → Type 0
IsShownTo files seen answer =
    ReadsRecord files seen.records seen.label (rule_of seen.net_billing) (IsTariffOf (labelled_in files seen.records seen.label) seen.label) answer

-- the answer to a list of words: they ask for nothing, and nothing is opened; or they are a request or ask to see a tariff, and the files
-- decide
pub data IsAnswer (words : List (List ℕ)) (files : Files) (answer : Answer) : Type 0 where
  no_request : ((asked : Asked) → IsRequest words asked → ⊥) → ((seen : Seen) → IsShow words seen → ⊥) → answer ≡ refused Words
      → IsAnswer words files answer
  request : (asked : Asked) → IsRequest words asked → IsAnswerTo files asked answer → IsAnswer words files answer
  show : (seen : Seen) → IsShow words seen → IsShownTo files seen answer → IsAnswer words files answer

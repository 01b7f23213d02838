-- What the parts of a run leave, each by the cases of what it answers.
use Rattle.std.specs.Prelude.{◌≡◌, ◌⊎◌, ⊤, ℕ, ◌<◌, ◌≤◌, ℤ, List, [], ◌∷◌, length, Result, Ok, Err, Vec}
use Rattle.std.specs.declared.alloc.Global.{Global}
use Rattle.d_desk.specs.Scene.{Files, Scene, opening, bytes_in}
use Rattle.d_desk.specs.declared.opened.Direction.TheVariants.{In}
use Rattle.d_desk.specs.Front.{GainsFront}
use Rattle.d_desk.specs.Stages.{Opens, OpensSome}
use Rattle.d_desk.specs.declared.fault.DeskFault.{DeskFault}
use Rattle.d_batt.specs.Storage.{Storage}
use Rattle.d_bill.specs.Inputs.{Inputs}
use Rattle.d_batt.specs.Shown.{storage_of}
use Rattle.d_meter.specs.Shown.{metered_of}
use Rattle.d_meter.specs.declared.meter.Meter.{Meter}
use Rattle.d_batt.specs.declared.battery.Battery.{Battery}
use Rattle.d_tariff.specs.Shown.{terms_of}
use Rattle.d_tariff.specs.declared.tariff.Tariff.{Tariff}
use Rattle.d_urdb.specs.declared.rule.RuleChoice.{RuleChoice}
use Rattle.d_table.specs.Table.{kept_rows, IsRectangular}
use Rattle.d_urdb.specs.Record.{label_name}
use Rattle.d_run.specs.Record.{IsRecord}
use Rattle.d_run.specs.declared.record.Recorded.{Recorded}
use Rattle.d_run.specs.Answer.{Answer, IsAnswer, longest_record, longest_file, joined, refused, rows_in, RefusesRecord, RefusesReadings, MeansReadings, RefusesBattery, MeansBattery, RefusesSchedule, MeansSchedule}
use Rattle.d_run.specs.Runs.{IsAnswered, IsCutShort}
use Rattle.d_run.specs.declared.reply.Reply.{Reply}
use Rattle.d_run.specs.declared.fault.Refusal.{Refusal}
use Rattle.d_run.specs.declared.fault.Refusal.TheVariants.{LongRecord, LongReadings, LongBattery, LongSchedule}
use Rattle.d_run.specs.declared.fault.Fault.{Fault}
use Rattle.d_run.specs.declared.fault.Fault.TheVariants as fault
use Rattle.d_run.specs.declared.verdict.Verdict.{Verdict}

-- a reply is such an answer, which opens nothing more and writes nothing
pub record IsReply (Is : Answer → Type 0) (reply : Reply) : Type 0 where
  pub answer : Answer
  pub is : Is answer
  pub verdict_is : reply.verdict ≡ answer.verdict
  pub text_is : reply.text.items ≡ answer.text
  pub alone : answer.openings ≡ []
  pub unwritten : answer.written ≡ []

-- a reply has this verdict and this text
abbrev pub Shows : Verdict → List ℕ → Reply → Type 0
Shows verdict text reply = (reply.verdict ≡ verdict) × (reply.text.items ≡ text)

-- a fault that no desk made: a reply that ends the answer, or want of memory
abbrev pub EndsBy : (Answer → Type 0) → Fault → Type 0
EndsBy Ends (fault.Refused reply) = IsReply Ends reply
EndsBy Ends fault.Failed = ⊥
EndsBy Ends fault.Memory = ⊤

-- a value, or a fault that no desk made
abbrev pub Gives : {T : Type 0} → (T → Type 0) → (Answer → Type 0) → Result T Fault → Type 0
Gives Has Ends (Ok value) = Has value
Gives Has Ends (Err f) = EndsBy Ends f

-- the record of this label: the rows that are kept of it, and its terms
pub record IsRecorded (rows : List (List (List ℕ))) (label : List ℕ) (rule : RuleChoice) (recorded : Recorded) : Type 0 where
  pub table : recorded.table ≡ kept_rows label_name label rows
  pub terms : IsRecord rows label rule (terms_of recorded.tariff)

-- the record of this label, or the refusal
abbrev pub GivesRecord : List (List (List ℕ)) → List ℕ → RuleChoice → Result Recorded Fault → Type 0
GivesRecord rows label rule result = Gives {T = Recorded} (IsRecorded rows label rule) (RefusesRecord rows label rule) result

-- a table of a file's rows, which have one length, or a refusal where they haven't
abbrev pub GivesTable : List (List (List ℕ)) → Refusal → Result (List (List (List ℕ))) Fault → Type 0
GivesTable rows shape result = Gives {T = List (List (List ℕ))} (λ table. (table ≡ rows) × IsRectangular rows)
    (λ end. (IsRectangular rows → ⊥) × (end ≡ refused shape)) result

-- a month of readings, or the refusal
abbrev pub GivesReadings : List (List (List ℕ)) → Result Meter Fault → Type 0
GivesReadings rows result = Gives {T = Meter} (λ meter. MeansReadings rows (metered_of meter)) (RefusesReadings rows) result

-- a battery, or the refusal
abbrev pub GivesBattery : List (List (List ℕ)) → Result Battery Fault → Type 0
GivesBattery rows result = Gives {T = Battery} (λ battery. MeansBattery rows (storage_of battery)) (RefusesBattery rows) result

-- the modes of a schedule, or the refusal
abbrev pub GivesSchedule : Inputs → List (List (List ℕ)) → Result (Vec ℕ Global) Fault → Type 0
GivesSchedule i rows result = Gives {T = Vec ℕ Global} (λ modes. MeansSchedule i rows modes.items) (RefusesSchedule i rows) result

-- the file of this name was opened, and gives a value or a reply that ends the answer; cut short it was opened or not
abbrev pub IsStage : {T : Type 0} → List ℕ → (T → Type 0) → (Answer → Type 0) → Scene → Scene → Result T Fault → Type 0
IsStage name Has Ends before now (Ok value) = Opens (opening In name ∷ []) before now × Has value
IsStage name Has Ends before now (Err (fault.Refused reply)) = Opens (opening In name ∷ []) before now × IsReply Ends reply
IsStage name Has Ends before now (Err fault.Failed) = OpensSome (opening In name ∷ []) before now
IsStage name Has Ends before now (Err fault.Memory) = OpensSome (opening In name ∷ []) before now

-- the bytes are the file's and within the limit
pub record AreWithin (files : Files) (name : List ℕ) (limit : ℕ) (bytes : Vec ℕ Global) : Type 0 where
  pub bytes_are : bytes.items ≡ bytes_in files name
  pub within : length (bytes_in files name) ≤ limit

-- the file is above its limit, and the answer says so
pub record IsTooLong (files : Files) (name : List ℕ) (limit : ℕ) (too_long : Refusal) (end : Answer) : Type 0 where
  pub above : limit < length (bytes_in files name)
  pub end_is : end ≡ refused too_long

-- the file is within its limit, and has this value
abbrev pub HasValue : {T : Type 0} → Files → List ℕ → ℕ → (T → Type 0) → T → Type 0
HasValue files name limit Means value = (length (bytes_in files name) ≤ limit) × Means value

-- the file is above its limit, or within it and refused
abbrev pub EndsAt : Files → List ℕ → ℕ → Refusal → (Answer → Type 0) → Answer → Type 0
EndsAt files name limit too_long Refuses end =
    IsTooLong files name limit too_long end ⊎ ((length (bytes_in files name) ≤ limit) × Refuses end)

-- the problem of a month but for its battery: by this tariff, these readings and this highest flat demand of earlier months
abbrev pub problem_of : Tariff → Meter → ℤ → Storage → Inputs
problem_of tariff meter prior = joined (terms_of tariff) (metered_of meter) prior

-- the file's bytes are loaded, or it is above its limit
abbrev pub LoadStage : List ℕ → ℕ → Refusal → Scene → Scene → Result (Vec ℕ Global) Fault → Type 0
LoadStage name limit too_long before now result =
    IsStage name (AreWithin before.files name limit) (IsTooLong before.files name limit too_long) before now result

-- the file gives a value that its rows mean, or a refusal
abbrev pub FileStage : {T : Type 0} → List ℕ → ℕ → Refusal → (List (List (List ℕ)) → T → Type 0) → (List (List (List ℕ)) → Answer → Type 0)
    → Scene → Scene → Result T Fault → Type 0
FileStage name limit too_long Means Refuses before now result =
    IsStage name (HasValue before.files name limit (Means (rows_in before.files name)))
    (EndsAt before.files name limit too_long (Refuses (rows_in before.files name))) before now result

-- the record file gives a record or a refusal
abbrev pub RecordStage : List ℕ → List ℕ → RuleChoice → Scene → Scene → Result Recorded Fault → Type 0
RecordStage name label rule = FileStage {T = Recorded} name longest_record LongRecord
    (λ rows recorded. IsRecorded rows label rule recorded) (λ rows. RefusesRecord rows label rule)

-- the readings file gives a month of readings or a refusal
abbrev pub ReadingsStage : List ℕ → Scene → Scene → Result Meter Fault → Type 0
ReadingsStage name =
    FileStage {T = Meter} name longest_file LongReadings (λ rows meter. MeansReadings rows (metered_of meter)) RefusesReadings

-- the battery file gives a battery or a refusal
abbrev pub BatteryStage : List ℕ → Scene → Scene → Result Battery Fault → Type 0
BatteryStage name =
    FileStage {T = Battery} name longest_file LongBattery (λ rows battery. MeansBattery rows (storage_of battery)) RefusesBattery

-- the schedule file gives the modes of its intervals or a refusal
abbrev pub ScheduleStage : List ℕ → Inputs → Scene → Scene → Result (Vec ℕ Global) Fault → Type 0
ScheduleStage name i = FileStage {T = Vec ℕ Global} name longest_file LongSchedule (λ rows modes. MeansSchedule i rows modes.items) (RefusesSchedule i)

-- an answer is prepared: its files are opened, its verdict and text are known, and it writes nothing
pub record IsPrepared (Is : Answer → Type 0) (before now : Scene) (reply : Reply) : Type 0 where
  pub answer : Answer
  pub is : Is answer
  pub verdict_is : reply.verdict ≡ answer.verdict
  pub text_is : reply.text.items ≡ answer.text
  pub opens : Opens answer.openings before now
  pub unwritten : answer.written ≡ []

-- nothing is printed yet, and of whatever the answer is a front of its files was opened
pub record StopsOpening (Is : Answer → Type 0) (before now : Scene) : Type 0 where
  pub files : now.files ≡ before.files
  pub printed : now.printed ≡ before.printed
  pub opened : (answer : Answer) → Is answer → GainsFront before.opened now.opened answer.openings

-- what preparing one answer leaves: the answer prepared, or a stop
abbrev pub PreparesOne : (Answer → Type 0) → Scene → Scene → Result Reply Fault → Type 0
PreparesOne Is before now (Ok reply) = IsPrepared Is before now reply
PreparesOne Is before now (Err (fault.Refused reply)) = IsPrepared Is before now reply
PreparesOne Is before now (Err fault.Failed) = StopsOpening Is before now
PreparesOne Is before now (Err fault.Memory) = StopsOpening Is before now

-- the answer is given, and this is its verdict
pub record IsGiven (words : List (List ℕ)) (before now : Scene) (verdict : Verdict) : Type 0 where
  pub answer : Answer
  pub is : IsAnswer words before.files answer
  pub verdict_is : verdict ≡ answer.verdict
  pub answered : IsAnswered answer before now

-- what replying leaves: the answer given, or a run cut short
abbrev pub Replies : List (List ℕ) → Scene → Scene → Result Verdict DeskFault → Type 0
Replies words before now (Ok verdict) = IsGiven words before now verdict
Replies words before now (Err e) = IsCutShort words before now

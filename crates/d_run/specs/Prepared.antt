-- What each part of a run prepares, by the files as they are before it.
use Rattle.std.specs.Prelude.{ℕ, ◌≤◌, Option, List, Result, IsErrOf}
use Rattle.d_desk.specs.Cause.{Rose}
use Rattle.d_desk.specs.Scene.{Files, Scene}
use Rattle.d_batt.specs.Storage.{Storage}
use Rattle.d_bill.specs.Inputs.{Inputs}
use Rattle.d_meter.specs.declared.meter.Meter.{Meter}
use Rattle.d_meter.specs.Shown.{metered_of}
use Rattle.d_tariff.specs.Shown.{terms_of}
use Rattle.d_tariff.specs.declared.tariff.Tariff.{Tariff}
use Rattle.d_words.specs.Asking.{asked_of, wanted_of}
use Rattle.d_words.specs.Shows.{seen_of}
use Rattle.d_words.specs.declared.show.Show.{Show}
use Rattle.d_run.specs.RecordText.{hourly_text}
use Rattle.d_run.specs.declared.record.Recorded.{Recorded}
use Rattle.d_run.specs.Answer.{Answer, IsAnswerTo, IsShownTo, IsWithTerms, Settles, IsFor, IsPlannable, IsPlanFor, IsBilled, no_storage, ReadsBattery, ReadsSchedule}
use Rattle.d_run.specs.Replies.{PreparesOne, problem_of}
use Rattle.d_run.specs.declared.fault.Fault.{Fault}
use Rattle.d_run.specs.declared.fault.Fault.TheVariants.{Failed}
use Rattle.d_run.specs.declared.reply.Reply.{Reply}
use Rattle.d_words.specs.declared.request.Request.{Request}

-- the desk's count of faults didn't fall, and it rose where the run stops since the desk failed
pub record IsCaused {T : Type 0} (before now : ℕ) (result : Result T Fault) : Type 0 where
  pub later : before ≤ now
  pub failed : IsErrOf result Failed → Rose before now

-- the answer that these files give is prepared, or the run stops
abbrev pub Prepares : (Files → Answer → Type 0) → Scene → Scene → Result Reply Fault → Type 0
Prepares Is before now result = PreparesOne (Is before.files) before now result

-- the answer to a request
abbrev pub IsRequested : Request → Files → Answer → Type 0
IsRequested request files = IsAnswerTo files (asked_of request)

-- the answer to words that ask to see a tariff
abbrev pub IsSeen : Show → Files → Answer → Type 0
IsSeen show files = IsShownTo files (seen_of show)

-- the answer where the record is known
abbrev pub IsWithRecord : Request → Recorded → Files → Answer → Type 0
IsWithRecord request recorded files = IsWithTerms files (asked_of request) (hourly_text recorded.table) (terms_of recorded.tariff)

-- the answer where tariff and readings are known
abbrev pub IsWithMeter : Request → Tariff → Meter → Files → Answer → Type 0
IsWithMeter request tariff meter files = IsFor files request.label.now (problem_of tariff meter request.prior_peak) (wanted_of request.task)

-- the answer where the record and the readings are known
abbrev pub IsWithReadings : Request → Recorded → Meter → Files → Answer → Type 0
IsWithReadings request recorded meter files =
    Settles (hourly_text recorded.table) (terms_of recorded.tariff) (metered_of meter) (IsWithMeter request recorded.tariff meter files)

-- the plan with the battery of this file, and the budget that the words give
abbrev pub Plans : List ℕ → Option ℕ → List ℕ → (Storage → Inputs) → Files → Answer → Type 0
Plans battery given label problem files = ReadsBattery files battery (λ storage. IsPlanFor (problem storage) given label)

-- the same where the month is one that is planned
abbrev pub PlansMonth : List ℕ → Option ℕ → List ℕ → (Storage → Inputs) → Files → Answer → Type 0
PlansMonth battery given label problem files = IsPlannable (problem no_storage) (Plans battery given label problem files)

-- the bill of the schedule of this file
abbrev pub BillsSchedule : List ℕ → List ℕ → Inputs → Files → Answer → Type 0
BillsSchedule schedule label i files = ReadsSchedule files schedule i (IsBilled i label)

-- the bill of the schedule of the one file with the battery of the other
abbrev pub Bills : List ℕ → List ℕ → List ℕ → (Storage → Inputs) → Files → Answer → Type 0
Bills battery schedule label problem files = ReadsBattery files battery (λ storage. BillsSchedule schedule label (problem storage) files)

-- How a run of the program may end.
use Rattle.std.specs.Prelude.{◌≡◌, ◌⊎◌, ℕ, List, [], ◌∷◌, ◌++◌, Some, bytes_eq}
use Rattle.std.specs.Map.{update}
use Rattle.d_desk.specs.Front.{GainsFront}
use Rattle.d_desk.specs.Scene.{Files, Scene}
use Rattle.d_run.specs.Answer.{Answer, Written, IsAnswer}
use Rattle.d_run.specs.declared.verdict.Verdict.{Verdict}
use Rattle.d_run.specs.declared.verdict.Verdict.TheVariants as verdict
use Rattle.d_run.specs.declared.verdict.Status.{Status}
use Rattle.d_run.specs.declared.verdict.Status.TheVariants as status

-- the status of a verdict
abbrev pub status_of : Verdict → Status
status_of verdict.Done = status.Done
status_of verdict.Words = status.Words
status_of verdict.Record = status.Record
status_of verdict.Readings = status.Readings
status_of verdict.Battery = status.Battery
status_of verdict.NoSchedule = status.NoSchedule
status_of verdict.Gap = status.Gap

-- the exit status, numbered in order
abbrev pub status_number : Status → ℕ
status_number status.Done = 0
status_number status.Words = 1
status_number status.Record = 2
status_number status.Readings = 3
status_number status.Battery = 4
status_number status.NoSchedule = 5
status_number status.Gap = 6
status_number status.Refused = 7
status_number status.Desk = 8
status_number status.Memory = 9

-- the files once these were written over them, one after the other
abbrev pub files_after : List Written → Files → Files
files_after [] files = files
files_after (written ∷ rest) files = files_after rest (update bytes_eq files written.name (Some written.bytes))

-- the run was answered: its text is printed whole, its files were opened in their order, and the files are as before but for those that it
-- wrote
pub record IsAnswered (answer : Answer) (before now : Scene) : Type 0 where
  pub printed : now.printed ≡ before.printed ++ answer.text
  pub opened : now.opened ≡ before.opened ++ answer.openings
  pub files : now.files ≡ files_after answer.written before.files

-- a front of the text of an answer is printed
pub record PrintsFrontOf (words : List (List ℕ)) (before now : Scene) : Type 0 where
  pub answer : Answer
  pub is : IsAnswer words before.files answer
  pub front : GainsFront before.printed now.printed answer.text

-- the run was cut short: nothing is printed, or a front of an answer's text; of whatever its answer is, a front of the files was opened; and
-- the files are as before
pub record IsCutShort (words : List (List ℕ)) (before now : Scene) : Type 0 where
  pub printed : (now.printed ≡ before.printed) ⊎ PrintsFrontOf words before now
  pub opened : (answer : Answer) → IsAnswer words before.files answer → GainsFront before.opened now.opened answer.openings
  pub files : now.files ≡ before.files

-- one of three ways: answered, a fault of the desk, or want of memory
pub data Runs (words : List (List ℕ)) (before now : Scene) (result : Status) : Type 0 where
  answered : (answer : Answer) → IsAnswer words before.files answer → result ≡ status_of answer.verdict → IsAnswered answer before now
      → Runs words before now result
  desk_fault : result ≡ status.Desk → IsCutShort words before now → Runs words before now result
  no_memory : result ≡ status.Memory → IsCutShort words before now → Runs words before now result

-- Where the numbers of a start stand in a cell.
use Rattle.std.specs.Prelude.{◌≡◌, ℕ, ◌+◌, ◌/◌, ◌%◌, List, [], ◌∷◌, take, drop, Option, Some, MatchOption}
use Rattle.d_cal.specs.declared.month.Month.{Month}
use Rattle.d_cal.specs.declared.start.Start.{Start}
use Rattle.d_cal.specs.Starts.{IsStart}

-- two digits of this number stand at that place
abbrev pub HasPair : List ℕ → ℕ → ℕ → Type 0
HasPair cell place number = take 2 (drop place cell) ≡ (48 + number / 10) ∷ (48 + number % 10) ∷ []

-- the month has the year and the number of a start
pub record HasMonth (start : Start) (month : Month) : Type 0 where
  pub year : month.year ≡ start.year
  pub number : month.number ≡ start.month

-- where the cell is a start, its month is found
abbrev pub FindsMonth : List ℕ → Option Month → Type 0
FindsMonth cell found = (start : Start) → IsStart cell start → MatchOption found ⊥ (HasMonth start)

-- where the cell is a start of the month, its day is found
abbrev pub FindsDay : List ℕ → Month → Option ℕ → Type 0
FindsDay cell month found = (start : Start) → IsStart cell start → HasMonth start month → found ≡ Some start.day

-- where the cell is a start, its minute is found
abbrev pub FindsMinute : List ℕ → Option ℕ → Type 0
FindsMinute cell found = (start : Start) → IsStart cell start → found ≡ Some start.minute

-- where the cell is a start, it is found
abbrev pub FindsStart : List ℕ → Option Start → Type 0
FindsStart cell found = (start : Start) → IsStart cell start → found ≡ Some start

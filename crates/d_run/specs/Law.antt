-- The law that the program's answers keep.
use Rattle.std.specs.Prelude.{◌≡◌, ℕ, List}
use Rattle.d_desk.specs.Scene.{Files}
use Rattle.d_run.specs.Answer.{Answer, IsAnswer}

-- to these words and files there is an answer, and no other
pub record HasAnswer (words : List (List ℕ)) (files : Files) : Type 0 where
  pub answer : Answer
  pub is : IsAnswer words files answer
  pub only : (other : Answer) → IsAnswer words files other → other ≡ answer

-- to every list of words and all files there is exactly one answer
abbrev pub HasOneAnswer : Type 0
HasOneAnswer = (words : List (List ℕ)) (files : Files) → HasAnswer words files

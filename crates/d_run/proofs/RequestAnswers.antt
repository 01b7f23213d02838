-- The answer to words that are a request is the answer to the request, and that to words that ask to see a tariff is the answer to these.
use Rattle.std.proofs.Common.{List, ℕ, subst}
use Rattle.d_desk.specs.Scene.{Files}
use Rattle.d_words.specs.Words.{Asked, IsRequest}
use Rattle.d_words.specs.Shows.{Seen, IsShow}
use Rattle.d_run.specs.Answer.{Answer, IsAnswer, IsAnswerTo, IsShownTo, no_request, request, show}
use Rattle.d_words.proofs.ShowFound.{one_show, show_alone}
use Rattle.d_words.proofs.RequestFound.{one_request}

pub asked_answer : (words : List (List ℕ)) (files : Files) (asked : Asked) → IsRequest words asked → (answer : Answer) → IsAnswer words files answer → IsAnswerTo files asked answer
asked_answer words files asked is answer (no_request none unseen same) = absurd (none asked is)
asked_answer words files asked is answer (show seen also to) = absurd (show_alone words seen asked also is)
asked_answer words files asked is answer (request other is_other to) =
    let P : Asked → Type 0 = λ a. IsAnswerTo files a answer in subst P (one_request words other asked is_other is) to

pub seen_answer : (words : List (List ℕ)) (files : Files) (seen : Seen) → IsShow words seen → (answer : Answer) → IsAnswer words files answer → IsShownTo files seen answer
seen_answer words files seen is answer (no_request none unseen same) = absurd (unseen seen is)
seen_answer words files seen is answer (request asked also to) = absurd (show_alone words seen asked is also)
seen_answer words files seen is answer (show other is_other to) =
    let P : Seen → Type 0 = λ s. IsShownTo files s answer in subst P (one_show words other seen is_other is) to

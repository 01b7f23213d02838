-- How a run ends by what it has prepared and printed, over plain scenes.
use Rattle.std.proofs.Common.{◌≡◌, inl, inr, ℕ, List, ◌++◌, Err, refl, sym, ap, subst, ◌∙◌}
use Rattle.d_desk.specs.Front.{IsFront, GainsFront}
use Rattle.d_desk.specs.Scene.{Scene}
use Rattle.d_desk.specs.Stages.{PrintsOnly, PrintsFront}
use Rattle.d_desk.proofs.Fronts.{gains_all}
use Rattle.d_run.specs.Answer.{Answer, Written, IsAnswer}
use Rattle.d_run.specs.Runs.{IsCutShort, files_after}
use Rattle.d_run.specs.Replies.{IsPrepared, StopsOpening, IsGiven, PreparesOne}
use Rattle.d_run.specs.declared.reply.Reply.{Reply}
use Rattle.d_run.specs.declared.fault.Fault.{Fault}
use Rattle.d_run.specs.declared.fault.Fault.TheVariants.{Refused}
use Rattle.d_run.proofs.OneAnswer.{answer_same}

-- what is prepared and printed whole is answered
pub gives_answer : (words : List (List ℕ)) (x y z : Scene) (reply : Reply) → IsPrepared (IsAnswer words x.files) x y reply → PrintsOnly reply.text.items y z
    → IsGiven words x z reply.verdict
gives_answer words x y z reply prepared prints = record {
  answer = prepared.answer;
  is = prepared.is;
  verdict_is = prepared.verdict_is;
  answered = record {
    printed = prints.printed ∙ (rw (prepared.opens.printed, prepared.text_is) refl);
    opened = prints.opened ∙ prepared.opens.opened;
    files = prints.files ∙ prepared.opens.files ∙ ap (λ (written : List Written). files_after written x.files) (sym prepared.unwritten);
  };
}

-- what is prepared and printed in part is cut short
pub cut_in_print : (words : List (List ℕ)) (x y z : Scene) (reply : Reply) → IsPrepared (IsAnswer words x.files) x y reply → PrintsFront reply.text.items y z
    → IsCutShort words x z
cut_in_print words x y z reply prepared prints = record {
  printed = inr (record { answer = prepared.answer; is = prepared.is; front = printed });
  opened = λ answer is. let P : Answer → Type 0 = λ a. GainsFront x.opened z.opened a.openings in
      subst P (answer_same words x.files prepared.answer answer prepared.is is) (gains_all (prints.opened ∙ prepared.opens.opened));
  files = prints.files ∙ prepared.opens.files;
}
  where
    printed : GainsFront x.printed z.printed prepared.answer.text
    printed = record {
      part = prints.printed.part;
      gained = prints.printed.gained ∙ ap (λ (p : List ℕ). p ++ prints.printed.part) prepared.opens.printed;
      front = (let P : List ℕ → Type 0 = λ t. IsFront prints.printed.part t in subst P prepared.text_is prints.printed.front);
    }

-- what stops before it is prepared is cut short
pub cut_in_opening : (words : List (List ℕ)) (x y : Scene) → StopsOpening (IsAnswer words x.files) x y → IsCutShort words x y
cut_in_opening words x y stops = record { printed = inl stops.printed; opened = stops.opened; files = stops.files }

-- a run that prepares nothing is cut short
pub cut_by_fault : (words : List (List ℕ)) (x y : Scene) (fault other : Fault) → fault ≡ other → PreparesOne (IsAnswer words x.files) x y (Err fault)
    → (PreparesOne (IsAnswer words x.files) x y (Err other) → StopsOpening (IsAnswer words x.files) x y) → IsCutShort words x y
cut_by_fault words x y fault other same prepares stops =
    let P : Fault → Type 0 = λ f. PreparesOne (IsAnswer words x.files) x y (Err f) in cut_in_opening words x y (stops (subst P same prepares))

-- what is prepared where a refusal is known by an equation
pub refusal_known : (words : List (List ℕ)) (x y : Scene) (fault : Fault) (reply : Reply) → fault ≡ Refused reply
    → PreparesOne (IsAnswer words x.files) x y (Err fault) → IsPrepared (IsAnswer words x.files) x y reply
refusal_known words x y fault reply is prepares =
    let P : Fault → Type 0 = λ f. PreparesOne (IsAnswer words x.files) x y (Err f) in subst P is prepares

-- How the stages of a run make its answer, over plain scenes. Each stage reads one file.
use Rattle.std.proofs.Common.{◌≡◌, inl, inr, ℕ, ◌≤◌, List, [], ◌∷◌, ◌++◌, length, Result, Ok, Err, refl, sym, ap, subst, ◌∙◌, arith}
use Rattle.d_desk.specs.Front.{IsFront, GainsFront}
use Rattle.d_desk.specs.Scene.{Files, Scene, Opening, opening, bytes_in}
use Rattle.d_desk.specs.Stages.{Opens, OpensSome}
use Rattle.d_desk.specs.declared.opened.Direction.TheVariants.{In}
use Rattle.d_desk.proofs.Fronts.{front_front, gains_after}
use Rattle.d_desk.proofs.StageLaws.{opens_none, opens_then, opens_some_all}
use Rattle.d_run.specs.Answer.{Answer, Reads, is_too_long, is_refused, goes_on, after_opening}
use Rattle.d_run.specs.Replies.{IsReply, EndsBy, Gives, IsStage, EndsAt, HasValue, IsPrepared, StopsOpening, PreparesOne}
use Rattle.d_run.specs.declared.reply.Reply.{Reply}
use Rattle.d_run.specs.declared.fault.Refusal.{Refusal}
use Rattle.d_run.specs.declared.fault.Fault.{Fault}
use Rattle.d_run.specs.declared.fault.Fault.TheVariants.{Refused, Failed, Memory}

-- rows are refused in one way and mean nothing, or mean one thing and aren't refused
pub data IsKnown {V : Type 0} (Refuses : Answer → Type 0) (Means : V → Type 0) : Type 0 where
  known_refused : (end : Answer) → Refuses end → ((other : Answer) → Refuses other → other ≡ end) → ((value : V) → Means value → ⊥) → IsKnown Refuses Means
  known_value : (value : V) → Means value → ((other : V) → Means other → other ≡ value) → ((end : Answer) → Refuses end → ⊥) → IsKnown Refuses Means

-- a reply that opens nothing more is prepared
pub reply_prepared : (Is : Answer → Type 0) (x : Scene) (reply : Reply) → IsReply Is reply → IsPrepared Is x x reply
reply_prepared Is x reply r = record {
  answer = r.answer;
  is = r.is;
  verdict_is = r.verdict_is;
  text_is = r.text_is;
  opens = (let P : List Opening → Type 0 = λ openings. Opens openings x x in subst P (sym r.alone) (opens_none x));
  unwritten = r.unwritten;
}

-- a run that stops with nothing more opened
pub stops_here : (Is : Answer → Type 0) (x : Scene) → StopsOpening Is x x
stops_here Is x = record { files = refl; printed = refl; opened = λ answer is. record { part = []; gained = opens_nothing; front = record { rest = answer.openings; whole_is = refl } } }
  where
    opens_nothing : x.opened ≡ x.opened ++ []
    opens_nothing = (opens_none x).opened

-- what is left where nothing more is opened
pub ends_here : (Is : Answer → Type 0) (x : Scene) (fault : Fault) → EndsBy Is fault → PreparesOne Is x x (Err fault)
ends_here Is x (Refused reply) r = reply_prepared Is x reply r
ends_here Is x Failed r = absurd r
ends_here Is x Memory r = stops_here Is x

pub gives_here : (Is : Answer → Type 0) (x : Scene) (result : Result Reply Fault) → Gives (IsReply Is) Is result → PreparesOne Is x x result
gives_here Is x (Ok reply) r = reply_prepared Is x reply r
gives_here Is x (Err fault) r = ends_here Is x fault r

-- a front stays one of an equal list
front_of : {X : Type 0} {front whole other : List X} → other ≡ whole → IsFront front whole → IsFront front other
front_of {X} {front} e f = let P : List X → Type 0 = λ w. IsFront front w in subst P (sym e) f

-- an opening is a front of what begins with it
first_front : (o : Opening) (rest : List Opening) → IsFront (o ∷ []) (o ∷ rest)
first_front o rest = record { rest = rest; whole_is = refl }

-- what a stage gives that has read its file
pub stage_of : {T : Type 0} (name : List ℕ) (Has : T → Type 0) (Ends : Answer → Type 0) (x y : Scene) (result : Result T Fault)
    → Opens (opening In name ∷ []) x y → Gives Has Ends result → IsStage name Has Ends x y result
stage_of name Has Ends x y (Ok value) opens gives = (opens, gives)
stage_of name Has Ends x y (Err (Refused reply)) opens gives = (opens, gives)
stage_of name Has Ends x y (Err Failed) opens gives = absurd gives
stage_of name Has Ends x y (Err Memory) opens gives = opens_some_all opens

-- one file's part of an answer
module _ {V : Type 0} (name : List ℕ) (limit : ℕ) (too_long : Refusal) (Refuses : Answer → Type 0) (Means : V → Type 0) (Next : V → Answer → Type 0) where
  -- the file is opened first
  reads_open : (files : Files) (answer : Answer) → Reads files name limit too_long Refuses Means Next answer → IsFront (opening In name ∷ []) answer.openings
  reads_open files answer (is_too_long above is) = front_of (ap (λ (a : Answer). a.openings) is) (first_front (opening In name) [])
  reads_open files answer (is_refused within end refuses is) = front_of (ap (λ (a : Answer). a.openings) is) (first_front (opening In name) end.openings)
  reads_open files answer (goes_on within value means rest next is) = front_of (ap (λ (a : Answer). a.openings) is) (first_front (opening In name) rest.openings)

  -- how the file ends the answer
  ended : (files : Files) (end : Answer) → EndsAt files name limit too_long Refuses end → Reads files name limit too_long Refuses Means Next (after_opening name end)
  ended files end (inl long) = is_too_long long.above (ap (after_opening name) long.end_is)
  ended files end (inr within) = is_refused within.0 end within.1 refl

  -- a run that ends at this file
  pub stage_ends : {T : Type 0} (Has : T → Type 0) (x y : Scene) (fault : Fault) → IsStage {T = T} name Has (EndsAt x.files name limit too_long Refuses) x y (Err fault)
      → PreparesOne (Reads x.files name limit too_long Refuses Means Next) x y (Err fault)
  stage_ends Has x y (Refused reply) stage = record {
    answer = after_opening name stage.1.answer;
    is = ended x.files stage.1.answer stage.1.is;
    verdict_is = stage.1.verdict_is;
    text_is = stage.1.text_is;
    opens = (let P : List Opening → Type 0 = λ rest. Opens (opening In name ∷ rest) x y in subst P (sym stage.1.alone) stage.0);
    unwritten = stage.1.unwritten;
  }
  stage_ends Has x y Failed stage = cut x y stage
    where
      cut : (x y : Scene) → OpensSome (opening In name ∷ []) x y → StopsOpening (Reads x.files name limit too_long Refuses Means Next) x y
      cut x y some = record {
        files = some.files;
        printed = some.printed;
        opened = λ answer is. record { part = some.opened.part; gained = some.opened.gained; front = front_front some.opened.front (reads_open x.files answer is) };
      }
  stage_ends Has x y Memory stage = record {
    files = stage.files;
    printed = stage.printed;
    opened = λ answer is. record { part = stage.opened.part; gained = stage.opened.gained; front = front_front stage.opened.front (reads_open x.files answer is) };
  }

  -- what goes on from a file that means this
  rest_of : (files : Files) (value : V) → IsKnown Refuses Means → length (bytes_in files name) ≤ limit → Means value → (answer : Answer)
      → Reads files name limit too_long Refuses Means Next answer → (rest : Answer) × Next value rest × (answer ≡ after_opening name rest)
  rest_of files value known within means answer (is_too_long above is) = absurd (omega arith)
  rest_of files value known within means answer (is_refused fits end refuses is) = absurd (never known)
    where
      never : IsKnown Refuses Means → ⊥
      never (known_refused end2 is2 only none) = none value means
      never (known_value other means2 only none) = none end refuses
  rest_of files value known within means answer (goes_on fits other means_other rest next is) =
      let P : V → Type 0 = λ v. Next v rest in (rest, subst P (same known) next, is)
    where
      same : IsKnown Refuses Means → other ≡ value
      same (known_refused end is2 only none) = absurd (none value means)
      same (known_value one means2 only none) = only other means_other ∙ sym (only value means)

  -- a run that goes on behind this file
  pub stage_goes_on : (x y z : Scene) (value : V) (result : Result Reply Fault) → IsKnown Refuses Means → Opens (opening In name ∷ []) x y
      → length (bytes_in x.files name) ≤ limit → Means value → PreparesOne (Next value) y z result
      → PreparesOne (Reads x.files name limit too_long Refuses Means Next) x z result
  stage_goes_on x y z value result known opens within means = by_result result
    where
      prepared : (reply : Reply) → IsPrepared (Next value) y z reply → IsPrepared (Reads x.files name limit too_long Refuses Means Next) x z reply
      prepared reply p = record {
        answer = after_opening name p.answer;
        is = goes_on within value means p.answer p.is refl;
        verdict_is = p.verdict_is;
        text_is = p.text_is;
        opens = opens_then opens p.opens;
        unwritten = p.unwritten;
      }

      stopped : StopsOpening (Next value) y z → StopsOpening (Reads x.files name limit too_long Refuses Means Next) x z
      stopped s = record {
        files = s.files ∙ opens.files;
        printed = s.printed ∙ opens.printed;
        opened = λ answer is.
            let rest = rest_of x.files value known within means answer is in
            let P : List Opening → Type 0 = λ openings. GainsFront x.opened z.opened openings in
            subst P (sym (ap (λ (a : Answer). a.openings) rest.2)) (gains_after (opening In name ∷ []) opens.opened (s.opened rest.0 rest.1));
      }

      by_result : (result : Result Reply Fault) → PreparesOne (Next value) y z result → PreparesOne (Reads x.files name limit too_long Refuses Means Next) x z result
      by_result (Ok reply) p = prepared reply p
      by_result (Err (Refused reply)) p = prepared reply p
      by_result (Err Failed) s = stopped s
      by_result (Err Memory) s = stopped s

-- a fault that ends by one answer ends by what that answer is
pub ends_weaker : (P Q : Answer → Type 0) (fault : Fault) → ((end : Answer) → P end → Q end) → EndsBy P fault → EndsBy Q fault
ends_weaker P Q (Refused reply) then r = record { answer = r.answer; is = then r.answer r.is; verdict_is = r.verdict_is; text_is = r.text_is; alone = r.alone; unwritten = r.unwritten }
ends_weaker P Q Failed then r = r
ends_weaker P Q Memory then r = r

-- what a reader of a file's bytes gives is what the stage gives
pub stage_from : {T : Type 0} (files : Files) (name : List ℕ) (limit : ℕ) (too_long : Refusal) (bytes : List ℕ) (Means : List ℕ → T → Type 0) (Refuses : List ℕ → Answer → Type 0)
    (x y : Scene) (result : Result T Fault) → Opens (opening In name ∷ []) x y → bytes ≡ bytes_in files name → length (bytes_in files name) ≤ limit
    → Gives (Means bytes) (Refuses bytes) result
    → IsStage name (HasValue files name limit (Means (bytes_in files name))) (EndsAt files name limit too_long (Refuses (bytes_in files name))) x y result
stage_from {T} files name limit too_long bytes Means Refuses x y result opens same within gives = by_result result (subst P same gives)
  where
    P : List ℕ → Type 0
    P b = Gives (Means b) (Refuses b) result

    by_result : (result : Result T Fault) → Gives (Means (bytes_in files name)) (Refuses (bytes_in files name)) result
        → IsStage name (HasValue files name limit (Means (bytes_in files name))) (EndsAt files name limit too_long (Refuses (bytes_in files name))) x y result
    by_result (Ok value) means = (opens, (within, means))
    by_result (Err fault) ends = stage_of {T = T} name (HasValue files name limit (Means (bytes_in files name))) (EndsAt files name limit too_long (Refuses (bytes_in files name))) x y (Err fault) opens
        (ends_weaker (Refuses (bytes_in files name)) (EndsAt files name limit too_long (Refuses (bytes_in files name))) fault (λ end refuses. inr (within, refuses)) ends)

-- an answer that is prepared under one name is under another
pub prepares_as : (P Q : Answer → Type 0) (x y : Scene) (result : Result Reply Fault) → ((answer : Answer) → P answer → Q answer) → ((answer : Answer) → Q answer → P answer)
    → PreparesOne P x y result → PreparesOne Q x y result
prepares_as P Q x y result there back = by_result result
  where
    prepared : (reply : Reply) → IsPrepared P x y reply → IsPrepared Q x y reply
    prepared reply p = record { answer = p.answer; is = there p.answer p.is; verdict_is = p.verdict_is; text_is = p.text_is; opens = p.opens; unwritten = p.unwritten }

    stopped : StopsOpening P x y → StopsOpening Q x y
    stopped s = record { files = s.files; printed = s.printed; opened = λ answer is. s.opened answer (back answer is) }

    by_result : (result : Result Reply Fault) → PreparesOne P x y result → PreparesOne Q x y result
    by_result (Ok reply) p = prepared reply p
    by_result (Err (Refused reply)) p = prepared reply p
    by_result (Err Failed) s = stopped s
    by_result (Err Memory) s = stopped s

-- what a reader refuses of a file's bytes ends the stage
pub stage_refused : {T : Type 0} (files : Files) (name : List ℕ) (limit : ℕ) (too_long : Refusal) (bytes : List ℕ) (Has : T → Type 0) (Refuses : List ℕ → Answer → Type 0)
    (x y : Scene) (fault : Fault) → Opens (opening In name ∷ []) x y → bytes ≡ bytes_in files name → length (bytes_in files name) ≤ limit
    → EndsBy (Refuses bytes) fault → IsStage {T = T} name Has (EndsAt files name limit too_long (Refuses (bytes_in files name))) x y (Err fault)
stage_refused {T} files name limit too_long bytes Has Refuses x y fault opens same within ends =
    let P : List ℕ → Type 0 = λ b. EndsBy (Refuses b) fault in
    stage_of {T = T} name Has (EndsAt files name limit too_long (Refuses (bytes_in files name))) x y (Err fault) opens
    (ends_weaker (Refuses (bytes_in files name)) (EndsAt files name limit too_long (Refuses (bytes_in files name))) fault (λ end refuses. inr (within, refuses)) (subst P same ends))

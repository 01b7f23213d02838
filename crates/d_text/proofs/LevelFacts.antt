-- A list in brackets is recognized where its parts are.
use Rattle.std.proofs.Common.{◌≡◌, ℕ, zero, suc, ◌+◌, ◌-◌, ◌<◌, ◌≤◌, Bool, true, false, nat_lt, ◌==◌, Option, None, Some, option_map, List, [], ◌∷◌, ◌++◌, length, arith, refl, ap, ◌∙◌, subst}
use Rattle.std.proofs.lemmas.List.{length-append}
use Rattle.std.proofs.lemmas.List.Elements.{All-nil}
use Rattle.std.proofs.lemmas.Bool.Decides.{nat_tests}
use Rattle.d_text.specs.Grid.{IsBlank, GoesOn, IsBracketedOf}
use Rattle.d_text.specs.declared.brackets.Stage.TheVariants.{Open, Closed}
use Rattle.d_text.specs.declared.brackets.Role.{Role}
use Rattle.d_text.specs.declared.brackets.Role.TheVariants.{Opening, Closing, Comma, Blank, Other}
use Rattle.d_text.specs.Brackets.{Reader, Level, unread, waiting, within, rested, shut, role_of, is_blank, opened, level_of, level, level_next, level_value, next_behind, next_end, next_within, next_waiting}
use Rattle.d_text.proofs.ReaderFacts.{run, Ends, Recognizes}
use Rattle.d_text.proofs.LevelReads.{LikeRested, part-run, whole-part, part-like, goes-on-run, bracketed-run}
use Rattle.d_text.proofs.LevelSays.{map-cond, bracketed-said}

-- a state in which no more parts are read than the list has
abbrev pub LevelGood : {S A : Type 0} → (S → Type 0) → ℕ → Level S A → Type 0
LevelGood Good most unread = Unit {0}
LevelGood Good most (waiting parts) = length parts < most
LevelGood Good most (within parts s) = (length parts < most) × Good s
LevelGood Good most (rested parts) = length parts ≤ most
LevelGood Good most (shut parts) = Unit {0}

open-good : {S A : Type 0} (m : Reader S A) (Good : S → Type 0) (most : ℕ) (l : Level S A) (role : Role) → 0 < most → option_map (λ stage. level_of stage [] m.start) (opened role) ≡ Some l → LevelGood Good most l
open-good m Good most l Opening some e = let same : waiting [] ≡ l = cc in subst (LevelGood Good most) same some
open-good m Good most l Closing some e = cc
open-good m Good most l Comma some e = cc
open-good m Good most l Blank some e = cc
open-good m Good most l Other some e = cc

behind-good : {S A : Type 0} (Good : S → Type 0) (most : ℕ) (parts : List A) (s : S) (l : Level S A) (role : Role) → length parts ≤ most → next_behind most parts s role ≡ Some l → LevelGood Good most l
behind-good Good most parts s l Opening le e = cc
behind-good Good most parts s l Closing le e =
    let test = map-cond (λ stage. level_of stage parts s) (length parts == most) Closed l e in
    let same : shut parts ≡ l = test.1 in
    subst (LevelGood Good most) same tt
behind-good Good most parts s l Comma le e =
    let test = map-cond (λ stage. level_of stage parts s) (nat_lt (length parts) most) Open l e in
    let same : waiting parts ≡ l = test.1 in
    subst (LevelGood Good most) same (below (length parts) most test.0)
  where
    below : (a b : ℕ) → nat_lt a b ≡ true → a < b
    below a b e = grind (arith, nat_tests)
behind-good Good most parts s l Blank le e = let same : rested parts ≡ l = cc in subst (LevelGood Good most) same le
behind-good Good most parts s l Other le e = cc

wait-good : {S A : Type 0} (Good : S → Type 0) (most : ℕ) (parts : List A) (l : Level S A) (o : Option S) (b : Bool) → length parts < most → ((s : S) → o ≡ Some s → Good s) → next_waiting parts o b ≡ Some l → LevelGood Good most l
wait-good Good most parts l o true lt g e = let same : waiting parts ≡ l = cc in subst (LevelGood Good most) same lt
wait-good Good most parts l None false lt g e = cc
wait-good Good most parts l (Some s) false lt g e = let same : within parts s ≡ l = cc in subst (LevelGood Good most) same (lt, g s refl)

in-good : {S A : Type 0} (Good : S → Type 0) (most : ℕ) (parts : List A) (s : S) (l : Level S A) (o : Option S) (v : Option A) (role : Role) → length parts < most → ((t : S) → o ≡ Some t → Good t)
    → next_within parts o (next_end most parts s v role) ≡ Some l → LevelGood Good most l
in-good Good most parts s l (Some t) v role lt g e = let same : within parts t ≡ l = cc in subst (LevelGood Good most) same (lt, g t refl)
in-good Good most parts s l None None role lt g e = cc
in-good Good most parts s l None (Some value) role lt g e = behind-good Good most (parts ++ value ∷ []) s l role (omega (arith, length-append parts (value ∷ []))) e

level-good : {S A : Type 0} (m : Reader S A) (Form : ℕ → List ℕ → A → Type 0) (Good : S → Type 0) → Recognizes m Form Good → (most : ℕ) → 0 < most → (place byte : ℕ) (k l : Level S A) → LevelGood Good most k
    → level_next m most place k byte ≡ Some l → LevelGood Good most l
level-good m Form Good r most some place byte unread l g e = open-good m Good most l (role_of byte) some e
level-good m Form Good r most some place byte (waiting parts) l g e =
    wait-good Good most parts l (m.next place m.start byte) (is_blank (role_of byte)) g (λ s f. r.good_next place byte m.start s r.good_start f) e
level-good m Form Good r most some place byte (within parts s) l g e =
    in-good Good most parts s l (m.next place s byte) (m.value s) (role_of byte) g.0 (λ t f. r.good_next place byte s t g.1 f) e
level-good m Form Good r most some place byte (rested parts) l g e = behind-good Good most parts m.start l (role_of byte) g e
level-good m Form Good r most some place byte (shut parts) l g e = cc

-- some text with so many parts
record Some-more {A : Type 0} (Form : ℕ → List ℕ → A → Type 0) (place count : ℕ) : Type 0 where
  text : List ℕ
  more : List A
  goes_on : GoesOn Form place text more
  count_is : length more ≡ count

some-more : {S A : Type 0} (m : Reader S A) (Form : ℕ → List ℕ → A → Type 0) (Good : S → Type 0) → Recognizes m Form Good → (count place : ℕ) → Some-more Form place count
some-more m Form Good r zero place = record { text = 93 ∷ []; more = []; goes_on = ([], All-nil IsBlank, refl); count_is = refl }
some-more {A = A} m Form Good r (suc count) place =
    let at : ℕ = place + length {A = ℕ} [] + 1 + length {A = ℕ} [] in
    let part = r.ends at m.start r.good_start in
    let next = some-more m Form Good r count (at + length part.rest) in
    record {
      text = 44 ∷ (part.rest ++ next.text);
      more = part.value ∷ next.more;
      goes_on = (
        [],
        part.rest ++ next.text,
        All-nil IsBlank,
        refl,
        record {
          blanks = [];
          part = part.rest;
          rest = next.text;
          form = refl;
          blanks_are = All-nil IsBlank;
          part_is = r.sound at part.rest part.value (record { end = part.end; runs = part.runs; says = part.says });
          rest_is = next.goes_on;
        },
      );
      count_is = ap suc next.count_is;
    }

rest-ends : {S A : Type 0} (m : Reader S A) (Form : ℕ → List ℕ → A → Type 0) (Good : S → Type 0) → Recognizes m Form Good → (most : ℕ) (parts : List A) (l : Level S A) (place : ℕ) → length parts ≤ most → LikeRested m most parts l
    → Ends (level m most) place l
rest-ends m Form Good r most parts l place le like =
    let next = some-more m Form Good r (most - length parts) place in
    record {
      rest = next.text;
      end = shut (parts ++ next.more);
      value = parts ++ next.more;
      runs = goes-on-run m Form Good r most next.more parts l place next.text like (omega (arith, length-append parts next.more, next.count_is)) next.goes_on;
      says = refl;
    }

part-ends : {S A : Type 0} (m : Reader S A) (Form : ℕ → List ℕ → A → Type 0) (Good : S → Type 0) → Recognizes m Form Good → (most : ℕ) (parts : List A) (t : S) (value : A) (place : ℕ) → length parts < most → m.value t ≡ Some value
    → Ends (level m most) place (within parts t)
part-ends m Form Good r most parts t value place lt says =
    rest-ends m Form Good r most (parts ++ value ∷ []) (within parts t) place (omega (arith, length-append parts (value ∷ []))) (part-like m Form Good r most parts t value says)

-- after some more text there is an end
prepend : {S A : Type 0} (m : Reader S A) (place : ℕ) (text : List ℕ) (s t : S) → ((rest : List ℕ) → run m place (text ++ rest) s ≡ run m (place + length text) rest t) → Ends m (place + length text) t → Ends m place s
prepend m place text s t moved e = record { rest = text ++ e.rest; end = e.end; value = e.value; runs = moved e.rest ∙ e.runs; says = e.says }

wait-ends : {S A : Type 0} (m : Reader S A) (Form : ℕ → List ℕ → A → Type 0) (Good : S → Type 0) → Recognizes m Form Good → (most : ℕ) (parts : List A) (place : ℕ) → length parts < most → Ends (level m most) place (waiting parts)
wait-ends m Form Good r most parts place lt =
    let part = r.ends place m.start r.good_start in
    prepend (level m most) place part.rest (waiting parts) (within parts part.end) (λ rest. whole-part m Form Good r most parts part.rest rest place part.end part.value part.runs part.says)
    (part-ends m Form Good r most parts part.end part.value (place + length part.rest) lt part.says)

level-ends : {S A : Type 0} (m : Reader S A) (Form : ℕ → List ℕ → A → Type 0) (Good : S → Type 0) → Recognizes m Form Good → (most : ℕ) → 0 < most → (place : ℕ) (k : Level S A) → LevelGood Good most k → Ends (level m most) place k
level-ends m Form Good r most some place unread g =
    let next = wait-ends m Form Good r most [] (place + 1) some in
    record { rest = 91 ∷ next.rest; end = next.end; value = next.value; runs = next.runs; says = next.says }
level-ends m Form Good r most some place (waiting parts) g = wait-ends m Form Good r most parts place g
level-ends m Form Good r most some place (within parts s) g =
    let part = r.ends place s g.1 in
    prepend (level m most) place part.rest (within parts s) (within parts part.end) (λ rest. part-run m most parts part.rest rest place s part.end part.runs)
    (part-ends m Form Good r most parts part.end part.value (place + length part.rest) g.0 part.says)
level-ends m Form Good r most some place (rested parts) g = rest-ends m Form Good r most parts (rested parts) place g (λ place byte stop. refl)
level-ends m Form Good r most some place (shut parts) g = record { rest = []; end = shut parts; value = parts; runs = refl; says = refl }

opened_blank : (role : Role) → is_blank role ≡ true → opened role ≡ None
opened_blank Opening e = cc
opened_blank Closing e = refl
opened_blank Comma e = refl
opened_blank Blank e = refl
opened_blank Other e = refl

level-stops : {S A : Type 0} (m : Reader S A) (most place byte : ℕ) (k : Level S A) (values : List A) → level_value k ≡ Some values → level_next m most place k byte ≡ None
level-stops m most place byte unread values e = cc
level-stops m most place byte (waiting parts) values e = cc
level-stops m most place byte (within parts s) values e = cc
level-stops m most place byte (rested parts) values e = cc
level-stops m most place byte (shut parts) values e = refl

only-shut : {S A : Type 0} (k : Level S A) (values : List A) → level_value k ≡ Some values → k ≡ shut values
only-shut unread values e = cc
only-shut (waiting parts) values e = cc
only-shut (within parts s) values e = cc
only-shut (rested parts) values e = cc
only-shut (shut parts) values e = let same : parts ≡ values = cc in ap shut same

-- a list is recognized where its parts are
pub level-recognizes : {S A : Type 0} (m : Reader S A) (Form : ℕ → List ℕ → A → Type 0) (Good : S → Type 0) → Recognizes m Form Good → (most : ℕ) → 0 < most
    → Recognizes (level m most) (IsBracketedOf most Form) (LevelGood Good most)
level-recognizes m Form Good r most some = record {
  sound = λ place text values h. bracketed-said m Form Good r most place text values (h.runs ∙ ap Some (only-shut h.end values h.says));
  complete = λ place text values h. record { end = shut values; runs = bracketed-run m Form Good r most place text values h.count_is h.bracketed; says = refl };
  unstarted = refl;
  no_blank = λ place byte e. ap (λ o. option_map (λ stage. level_of stage [] m.start) o) (opened_blank (role_of byte) e);
  stops = λ place byte k values e stop. level-stops m most place byte k values e;
  good_start = tt;
  good_next = λ place byte k l g e. level-good m Form Good r most some place byte k l g e;
  ends = λ place k g. level-ends m Form Good r most some place k g;
}

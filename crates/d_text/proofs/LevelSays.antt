-- What a text says that leads a list in brackets to its end.
use Rattle.std.proofs.Common.{◌≡◌, ℕ, ◌+◌, Bool, true, false, nat_lt, ◌==◌, cond, Option, None, Some, option_map, List, [], ◌∷◌, ◌++◌, length, arith, refl, sym, ap, ap₂, ◌∙◌, append_assoc, subst}
use Rattle.std.proofs.lemmas.List.{append-nil}
use Rattle.std.proofs.lemmas.List.Elements.{All-nil, All-cons}
use Rattle.std.proofs.lemmas.Bool.Decides.{nat_tests}
use Rattle.d_text.specs.Grid.{IsBlank, StartsWith, GoesOn, IsBracketed, IsBracketedOf}
use Rattle.d_text.specs.declared.brackets.Stage.{Stage}
use Rattle.d_text.specs.declared.brackets.Stage.TheVariants.{Open, Closed}
use Rattle.d_text.specs.declared.brackets.Role.{Role}
use Rattle.d_text.specs.declared.brackets.Role.TheVariants.{Opening, Closing, Comma, Blank, Other}
use Rattle.d_text.specs.Brackets.{Reader, Level, unread, waiting, within, rested, shut, role_of, is_blank, opened, level_of, level, level_next, next_behind, next_end, next_within, next_waiting}
use Rattle.d_text.proofs.ReaderFacts.{on, run, Recognizes, further, here}

-- what the kind of a byte says of it
pub role_blank : (byte : ℕ) → role_of byte ≡ Blank → IsBlank byte
role_blank byte e = grind (arith, nat_tests)

role_opening : (byte : ℕ) → role_of byte ≡ Opening → byte ≡ 91
role_opening byte e = grind (arith, nat_tests)

pub role_closing : (byte : ℕ) → role_of byte ≡ Closing → byte ≡ 93
role_closing byte e = grind (arith, nat_tests)

pub role_comma : (byte : ℕ) → role_of byte ≡ Comma → byte ≡ 44
role_comma byte e = grind (arith, nat_tests)

pub blank_only : (role : Role) → is_blank role ≡ true → role ≡ Blank
blank_only Opening e = cc
blank_only Closing e = cc
blank_only Comma e = cc
blank_only Blank e = refl
blank_only Other e = cc

-- the first of the values that are left, and the rest of the list
record Ahead {S A : Type 0} (m : Reader S A) (Form : ℕ → List ℕ → A → Type 0) (most : ℕ) (done : List A) (place : ℕ) (text : List ℕ) (values : List A) : Type 0 where
  value : A
  more : List A
  starts : StartsWith Form place text value (λ behind rest. GoesOn Form behind rest more)
  values_are : values ≡ done ++ value ∷ more
  count : length values ≡ most

-- the rest of a part, and the rest of the list
record Inside {S A : Type 0} (m : Reader S A) (Form : ℕ → List ℕ → A → Type 0) (most : ℕ) (done : List A) (s : S) (place : ℕ) (text : List ℕ) (values : List A) : Type 0 where
  value : A
  more : List A
  front : List ℕ
  rest : List ℕ
  end : S
  form : text ≡ front ++ rest
  runs : run m place front s ≡ Some end
  says : m.value end ≡ Some value
  goes_on : GoesOn Form (place + length front) rest more
  values_are : values ≡ done ++ value ∷ more
  count : length values ≡ most

-- the rest of the list
record Behind {A : Type 0} (Form : ℕ → List ℕ → A → Type 0) (most : ℕ) (done : List A) (place : ℕ) (text : List ℕ) (values : List A) : Type 0 where
  more : List A
  goes_on : GoesOn Form place text more
  values_are : values ≡ done ++ more
  count : length values ≡ most

-- what a text says from a state on
abbrev Left : {S A : Type 0} → Reader S A → (ℕ → List ℕ → A → Type 0) → ℕ → Level S A → ℕ → List ℕ → List A → Type 0
Left m Form most unread place text values = IsBracketedOf most Form place text values
Left m Form most (waiting done) place text values = Ahead m Form most done place text values
Left m Form most (within done s) place text values = Inside m Form most done s place text values
Left m Form most (rested done) place text values = Behind Form most done place text values
Left m Form most (shut done) place text values = (text ≡ []) × (values ≡ done)

-- one byte back
open-back : {S A : Type 0} (m : Reader S A) (Form : ℕ → List ℕ → A → Type 0) (most place byte : ℕ) (rest : List ℕ) (l : Level S A) (values : List A) (role : Role) → role_of byte ≡ role
    → option_map (λ stage. level_of stage [] m.start) (opened role) ≡ Some l → Left m Form most l (place + 1) rest values → IsBracketedOf most Form place (byte ∷ rest) values
open-back m Form most place byte rest l values Opening e next h =
    let same : waiting [] ≡ l = cc in
    let a : Ahead m Form most [] (place + 1) rest values = subst (λ k. Left m Form most k (place + 1) rest values) (sym same) h in
    let b : IsBracketed Form place (byte ∷ rest) (a.value ∷ a.more) = (rest, ap (λ (c : ℕ). c ∷ rest) (role_opening byte e), a.starts) in
    record { bracketed = subst (λ v. IsBracketed Form place (byte ∷ rest) v) (sym a.values_are) b; count_is = a.count }
open-back m Form most place byte rest l values Closing e next h = cc
open-back m Form most place byte rest l values Comma e next h = cc
open-back m Form most place byte rest l values Blank e next h = cc
open-back m Form most place byte rest l values Other e next h = cc

-- a blank before a part
blank-starts : {A : Type 0} (Form : ℕ → List ℕ → A → Type 0) (Rest : ℕ → List ℕ → Type 0) (place byte : ℕ) (text : List ℕ) (value : A) → IsBlank byte → StartsWith Form (place + 1) text value Rest → StartsWith Form place (byte ∷ text) value Rest
blank-starts Form Rest place byte text value blank w =
    let at = further place (length w.blanks) in
    record {
      blanks = byte ∷ w.blanks;
      part = w.part;
      rest = w.rest;
      form = ap (λ (t : List ℕ). byte ∷ t) w.form;
      blanks_are = All-cons IsBlank byte w.blanks blank w.blanks_are;
      part_is = subst (λ p. Form p w.part value) at w.part_is;
      rest_is = subst (λ p. Rest (p + length w.part) w.rest) at w.rest_is;
    }

-- the first byte of a part
part-back : {S A : Type 0} (m : Reader S A) (Form : ℕ → List ℕ → A → Type 0) (Good : S → Type 0) → Recognizes m Form Good → (most place byte : ℕ) (rest : List ℕ) (done : List A) (s : S) (values : List A)
    → m.next place m.start byte ≡ Some s → Inside m Form most done s (place + 1) rest values → Ahead m Form most done place (byte ∷ rest) values
part-back m Form Good r most place byte rest done s values next h =
    let runs : run m place (byte ∷ h.front) m.start ≡ Some h.end = ap (λ o. on o (run m (place + 1) h.front)) next ∙ h.runs in
    let is : Form place (byte ∷ h.front) h.value = r.sound place (byte ∷ h.front) h.value (record { end = h.end; runs = runs; says = h.says }) in
    record {
      value = h.value;
      more = h.more;
      starts = record {
        blanks = [];
        part = byte ∷ h.front;
        rest = h.rest;
        form = ap (λ (t : List ℕ). byte ∷ t) h.form;
        blanks_are = All-nil IsBlank;
        part_is = subst (λ p. Form p (byte ∷ h.front) h.value) (here place) is;
        rest_is = subst (λ p. GoesOn Form p h.rest h.more) (further place (length h.front) ∙ ap (λ (p : ℕ). p + length (byte ∷ h.front)) (here place)) h.goes_on;
      };
      values_are = h.values_are;
      count = h.count;
    }

wait-back : {S A : Type 0} (m : Reader S A) (Form : ℕ → List ℕ → A → Type 0) (Good : S → Type 0) → Recognizes m Form Good → (most place byte : ℕ) (rest : List ℕ) (done : List A) (l : Level S A) (values : List A) (b : Bool) → is_blank (role_of byte) ≡ b
    → (o : Option S) → m.next place m.start byte ≡ o → next_waiting done o b ≡ Some l → Left m Form most l (place + 1) rest values → Ahead m Form most done place (byte ∷ rest) values
wait-back m Form Good r most place byte rest done l values true e o f next h =
    let same : waiting done ≡ l = cc in
    let a : Ahead m Form most done (place + 1) rest values = subst (λ k. Left m Form most k (place + 1) rest values) (sym same) h in
    record {
      value = a.value;
      more = a.more;
      starts = blank-starts Form (λ behind rest. GoesOn Form behind rest a.more) place byte rest a.value (role_blank byte (blank_only (role_of byte) e)) a.starts;
      values_are = a.values_are;
      count = a.count;
    }
wait-back m Form Good r most place byte rest done l values false e None f next h = cc
wait-back m Form Good r most place byte rest done l values false e (Some s) f next h =
    let same : within done s ≡ l = cc in
    part-back m Form Good r most place byte rest done s values f (subst (λ k. Left m Form most k (place + 1) rest values) (sym same) h)

-- a byte behind a part
behind-blank : {A : Type 0} (Form : ℕ → List ℕ → A → Type 0) (place byte : ℕ) (rest : List ℕ) (more : List A) → IsBlank byte → GoesOn Form (place + 1) rest more → GoesOn Form place (byte ∷ rest) more
behind-blank Form place byte rest [] blank h = (byte ∷ h.0, All-cons IsBlank byte h.0 blank h.1, ap (λ (t : List ℕ). byte ∷ t) h.2)
behind-blank Form place byte rest (value ∷ more) blank h = (
  byte ∷ h.0,
  h.1,
  All-cons IsBlank byte h.0 blank h.2,
  ap (λ (t : List ℕ). byte ∷ t) h.3,
  subst (λ p. StartsWith Form (p + 1) h.1 value (λ behind rest. GoesOn Form behind rest more)) (further place (length h.0)) h.4,
)

cond-some : {X : Type 0} (b : Bool) (x y : X) → cond b (Some x) None ≡ Some y → (b ≡ true) × (x ≡ y)
cond-some true x y e = (refl, cc)
cond-some false x y e = absurd cc

pub map-cond : {X : Type 0} (f : Stage → X) (b : Bool) (stage : Stage) (y : X) → option_map f (cond b (Some stage) None) ≡ Some y → (b ≡ true) × (f stage ≡ y)
map-cond f true stage y e = (refl, cc)
map-cond f false stage y e = absurd cc

counted : (a b : ℕ) → (a == b) ≡ true → a ≡ b
counted a b e = grind (arith, nat_tests)

rest-back : {S A : Type 0} (m : Reader S A) (Form : ℕ → List ℕ → A → Type 0) (most place byte : ℕ) (rest : List ℕ) (done : List A) (s : S) (l : Level S A) (values : List A) (role : Role) → role_of byte ≡ role
    → next_behind most done s role ≡ Some l → Left m Form most l (place + 1) rest values → Behind Form most done place (byte ∷ rest) values
rest-back m Form most place byte rest done s l values Opening e next h = cc
rest-back m Form most place byte rest done s l values Closing e next h =
    let test = map-cond (λ stage. level_of stage done s) (length done == most) Closed l next in
    let same : shut done ≡ l = test.1 in
    let a : (rest ≡ []) × (values ≡ done) = subst (λ k. Left m Form most k (place + 1) rest values) (sym same) h in
    record {
      more = [];
      goes_on = ([], All-nil IsBlank, ap₂ (λ (c : ℕ) (t : List ℕ). c ∷ t) (role_closing byte e) a.0);
      values_are = a.1 ∙ sym (append-nil done);
      count = ap (λ vs. length vs) a.1 ∙ counted (length done) most test.0;
    }
rest-back m Form most place byte rest done s l values Comma e next h =
    let test = map-cond (λ stage. level_of stage done s) (nat_lt (length done) most) Open l next in
    let same : waiting done ≡ l = test.1 in
    let a : Ahead m Form most done (place + 1) rest values = subst (λ k. Left m Form most k (place + 1) rest values) (sym same) h in
    record {
      more = a.value ∷ a.more;
      goes_on = (
        [],
        rest,
        All-nil IsBlank,
        ap (λ (c : ℕ). c ∷ rest) (role_comma byte e),
        subst (λ p. StartsWith Form (p + 1) rest a.value (λ behind rest. GoesOn Form behind rest a.more)) (here place) a.starts,
      );
      values_are = a.values_are;
      count = a.count;
    }
rest-back m Form most place byte rest done s l values Blank e next h =
    let same : rested done ≡ l = cc in
    let a : Behind Form most done (place + 1) rest values = subst (λ k. Left m Form most k (place + 1) rest values) (sym same) h in
    record { more = a.more; goes_on = behind-blank Form place byte rest a.more (role_blank byte e) a.goes_on; values_are = a.values_are; count = a.count }
rest-back m Form most place byte rest done s l values Other e next h = cc

-- a byte in a part, or behind its end
in-back : {S A : Type 0} (m : Reader S A) (Form : ℕ → List ℕ → A → Type 0) (most place byte : ℕ) (rest : List ℕ) (done : List A) (s : S) (l : Level S A) (values : List A)
    → (o : Option S) → m.next place s byte ≡ o → (v : Option A) → m.value s ≡ v → next_within done o (next_end most done s v (role_of byte)) ≡ Some l → Left m Form most l (place + 1) rest values → Inside m Form most done s place (byte ∷ rest) values
in-back m Form most place byte rest done s l values (Some t) f v g next h =
    let same : within done t ≡ l = cc in
    let a : Inside m Form most done t (place + 1) rest values = subst (λ k. Left m Form most k (place + 1) rest values) (sym same) h in
    record {
      value = a.value;
      more = a.more;
      front = byte ∷ a.front;
      rest = a.rest;
      end = a.end;
      form = ap (λ (t : List ℕ). byte ∷ t) a.form;
      runs = ap (λ o. on o (run m (place + 1) a.front)) f ∙ a.runs;
      says = a.says;
      goes_on = subst (λ p. GoesOn Form p a.rest a.more) (further place (length a.front)) a.goes_on;
      values_are = a.values_are;
      count = a.count;
    }
in-back m Form most place byte rest done s l values None f None g next h = cc
in-back m Form most place byte rest done s l values None f (Some value) g next h =
    let a = rest-back m Form most place byte rest (done ++ value ∷ []) s l values (role_of byte) refl next h in
    record {
      value = value;
      more = a.more;
      front = [];
      rest = byte ∷ rest;
      end = s;
      form = refl;
      runs = refl;
      says = g;
      goes_on = subst (λ p. GoesOn Form p (byte ∷ rest) a.more) (here place) a.goes_on;
      values_are = a.values_are ∙ append_assoc done (value ∷ []) a.more;
      count = a.count;
    }

back : {S A : Type 0} (m : Reader S A) (Form : ℕ → List ℕ → A → Type 0) (Good : S → Type 0) → Recognizes m Form Good → (most place byte : ℕ) (rest : List ℕ) (k l : Level S A) (values : List A)
    → level_next m most place k byte ≡ Some l → Left m Form most l (place + 1) rest values → Left m Form most k place (byte ∷ rest) values
back m Form Good r most place byte rest unread l values next h = open-back m Form most place byte rest l values (role_of byte) refl next h
back m Form Good r most place byte rest (waiting done) l values next h = wait-back m Form Good r most place byte rest done l values (is_blank (role_of byte)) refl (m.next place m.start byte) refl next h
back m Form Good r most place byte rest (within done s) l values next h = in-back m Form most place byte rest done s l values (m.next place s byte) refl (m.value s) refl next h
back m Form Good r most place byte rest (rested done) l values next h = rest-back m Form most place byte rest done m.start l values (role_of byte) refl next h
back m Form Good r most place byte rest (shut done) l values next h = cc

at_end : {S A : Type 0} (m : Reader S A) (Form : ℕ → List ℕ → A → Type 0) (most place : ℕ) (k : Level S A) (values : List A) → k ≡ shut values → Left m Form most k place [] values
at_end m Form most place unread values e = cc
at_end m Form most place (waiting done) values e = cc
at_end m Form most place (within done s) values e = cc
at_end m Form most place (rested done) values e = cc
at_end m Form most place (shut done) values e = (refl, cc)

-- what a text says
left : {S A : Type 0} (m : Reader S A) (Form : ℕ → List ℕ → A → Type 0) (Good : S → Type 0) → Recognizes m Form Good → (most : ℕ) (text : List ℕ) (place : ℕ) (k : Level S A) (values : List A)
    → run (level m most) place text k ≡ Some (shut values) → Left m Form most k place text values
left m Form Good r most [] place k values e = at_end m Form most place k values (some_same k (shut values) e)
  where
    some_same : {X : Type 0} (x y : X) → Some x ≡ Some y → x ≡ y
    some_same x y e = cc
left {S = S} {A = A} m Form Good r most (byte ∷ text) place k values e = by_next (level_next m most place k byte) refl e (λ l. left m Form Good r most text (place + 1) l values)
  where
    by_next : (o : Option (Level S A)) → level_next m most place k byte ≡ o → on o (run (level m most) (place + 1) text) ≡ Some (shut values)
        → ((l : Level S A) → run (level m most) (place + 1) text l ≡ Some (shut values) → Left m Form most l (place + 1) text values) → Left m Form most k place (byte ∷ text) values
    by_next None f e g = absurd cc
    by_next (Some l) f e g = back m Form Good r most place byte text k l values f (g l e)

pub bracketed-said : {S A : Type 0} (m : Reader S A) (Form : ℕ → List ℕ → A → Type 0) (Good : S → Type 0) → Recognizes m Form Good → (most place : ℕ) (text : List ℕ) (values : List A)
    → run (level m most) place text unread ≡ Some (shut values) → IsBracketedOf most Form place text values
bracketed-said m Form Good r most place text values e = left m Form Good r most text place unread values e

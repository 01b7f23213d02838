-- What a reader says of whole texts.
use Rattle.std.proofs.Common.{◌≡◌, ℕ, ◌+◌, ◌≤◌, ◌<◌, ◌⊎◌, inl, inr, zero, suc, Bool, true, false, Option, None, Some, List, [], ◌∷◌, ◌++◌, length, take, drop, get_or, arith, refl, sym, ap, ap₂, ◌∙◌, append_assoc}
use Rattle.std.proofs.Math.Seq.{drop-cons}
use Rattle.std.proofs.lemmas.List.{take-append-drop, take-take, get_or-take, length-take-le, take_all, take_more}
use Rattle.d_text.specs.Grid.{Begins, IsRefusedAt}
use Rattle.d_text.specs.declared.brackets.Role.{Role}
use Rattle.d_text.specs.declared.brackets.Role.TheVariants.{Opening, Closing, Comma, Blank, Other}
use Rattle.d_text.specs.Brackets.{Reader, role_of, is_blank}

-- on from a state, if there is one
abbrev pub on : {S T : Type 0} → Option S → (S → Option T) → Option T
on None f = None
on (Some s) f = f s

-- where a text leads
abbrev pub run : {S A : Type 0} → Reader S A → ℕ → List ℕ → S → Option S
run m place [] s = Some s
run m place (byte ∷ rest) s = on (m.next place s byte) (run m (place + 1) rest)

-- the whole text says this
pub record Reads {S A : Type 0} (m : Reader S A) (place : ℕ) (text : List ℕ) (value : A) : Type 0 where
  pub end : S
  pub runs : run m place text m.start ≡ Some end
  pub says : m.value end ≡ Some value

-- some text says something from a state on
pub record Ends {S A : Type 0} (m : Reader S A) (place : ℕ) (s : S) : Type 0 where
  pub rest : List ℕ
  pub end : S
  pub value : A
  pub runs : run m place rest s ≡ Some end
  pub says : m.value end ≡ Some value

-- a byte that ends a part
abbrev pub is_stop : Role → Bool
is_stop Opening = false
is_stop Closing = true
is_stop Comma = true
is_stop Blank = true
is_stop Other = false

-- a reader of a form. It passes through good states alone, and no part of the form begins with a blank or goes on behind its end.
pub record Recognizes {S A : Type 0} (m : Reader S A) (Form : ℕ → List ℕ → A → Type 0) (Good : S → Type 0) : Type 0 where
  pub sound : (place : ℕ) (text : List ℕ) (value : A) → Reads m place text value → Form place text value
  pub complete : (place : ℕ) (text : List ℕ) (value : A) → Form place text value → Reads m place text value
  pub unstarted : m.value m.start ≡ None
  pub no_blank : (place byte : ℕ) → is_blank (role_of byte) ≡ true → m.next place m.start byte ≡ None
  pub stops : (place byte : ℕ) (s : S) (value : A) → m.value s ≡ Some value → is_stop (role_of byte) ≡ true → m.next place s byte ≡ None
  pub good_start : Good m.start
  pub good_next : (place byte : ℕ) (s t : S) → Good s → m.next place s byte ≡ Some t → Good t
  pub ends : (place : ℕ) (s : S) → Good s → Ends m place s

pub further : (place n : ℕ) → place + 1 + n ≡ place + (suc n)
further place n = omega arith

pub here : (place : ℕ) → place ≡ place + 0
here place = omega arith

-- a text behind another
pub run-append : {S A : Type 0} (m : Reader S A) (a b : List ℕ) (place : ℕ) (s : S) → run m place (a ++ b) s ≡ on (run m place a s) (run m (place + length a) b)
run-append {S = S} m [] b place s = ap (λ (p : ℕ). run m p b s) (here place)
run-append {S = S} m (byte ∷ a) b place s = by_next (m.next place s byte) (λ t. run-append m a b (place + 1) t)
  where
    by_next : (o : Option S) → ((t : S) → run m (place + 1) (a ++ b) t ≡ on (run m (place + 1) a t) (run m (place + 1 + length a) b))
        → on o (run m (place + 1) (a ++ b)) ≡ on (on o (run m (place + 1) a)) (run m (place + length (byte ∷ a)) b)
    by_next None f = refl
    by_next (Some t) f = f t ∙ ap (λ (p : ℕ). on (run m (place + 1) a t) (run m p b)) (further place (length a))

pub run-then : {S A : Type 0} (m : Reader S A) (a b : List ℕ) (place : ℕ) (s t : S) (o : Option S) → run m place a s ≡ Some t → run m (place + length a) b t ≡ o → run m place (a ++ b) s ≡ o
run-then {S = S} m a b place s t o e f = run-append m a b place s ∙ ap (λ (u : Option S). on u (run m (place + length a) b)) e ∙ f

-- a text says one thing at most
pub one-value : {S A : Type 0} (m : Reader S A) (place : ℕ) (text : List ℕ) (v w : A) → Reads m place text v → Reads m place text w → v ≡ w
one-value m place text v w a b =
    let ends : Some a.end ≡ Some b.end = sym a.runs ∙ b.runs in
    let same : a.end ≡ b.end = cc in
    let values : Some v ≡ Some w = sym a.says ∙ ap m.value same ∙ b.says in
    cc

-- a good state stays so
pub good-run : {S A : Type 0} (m : Reader S A) (Form : ℕ → List ℕ → A → Type 0) (Good : S → Type 0) → Recognizes m Form Good → (text : List ℕ) (place : ℕ) (s t : S) → Good s → run m place text s ≡ Some t → Good t
good-run {S = S} m Form Good r [] place s t g e = let same : s ≡ t = cc in rw (sym same) g
good-run {S = S} m Form Good r (byte ∷ text) place s t g e = by_next (m.next place s byte) refl e (λ u h. good-run m Form Good r text (place + 1) u t h)
  where
    by_next : (o : Option S) → m.next place s byte ≡ o → on o (run m (place + 1) text) ≡ Some t → ((u : S) → Good u → run m (place + 1) text u ≡ Some t → Good t) → Good t
    by_next None h e f = absurd cc
    by_next (Some u) h e f = f u (r.good_next place byte s u g h) e

-- what is read of a text begins one of the form
pub reads-begin : {S A : Type 0} (m : Reader S A) (Form : ℕ → List ℕ → A → Type 0) (Good : S → Type 0) → Recognizes m Form Good → (text : List ℕ) (s : S) → run m 0 text m.start ≡ Some s → Begins Form text
reads-begin m Form Good r text s e =
    let more = r.ends (0 + length text) s (good-run m Form Good r text 0 m.start s r.good_start e) in
    let whole : run m 0 (text ++ more.rest) m.start ≡ Some more.end = run-then m text more.rest 0 m.start s (Some more.end) e more.runs in
    (more.rest, more.value, r.sound 0 (text ++ more.rest) more.value (record { end = more.end; runs = whole; says = more.says }))

-- a front and what stands behind it
split : (xs : List ℕ) (i : ℕ) → i < length xs → xs ≡ take i xs ++ (get_or xs i 0 ∷ drop (suc i) xs)
split xs i lt = sym (take-append-drop i xs) ∙ ap (λ (t : List ℕ). take i xs ++ t) (drop-cons xs i 0 lt)

-- a text that goes on where nothing does isn't of the form
nowhere : {S A : Type 0} (m : Reader S A) (Form : ℕ → List ℕ → A → Type 0) (Good : S → Type 0) → Recognizes m Form Good → (a rest : List ℕ) (byte : ℕ) (s : S) (value : A) → run m 0 a m.start ≡ Some s
    → m.next (0 + length a) s byte ≡ None → Form 0 (a ++ (byte ∷ rest)) value → ⊥
nowhere {S = S} m Form Good r a rest byte s value e f h =
    let read = r.complete 0 (a ++ (byte ∷ rest)) value h in
    let none : run m 0 (a ++ (byte ∷ rest)) m.start ≡ None = run-then m a (byte ∷ rest) 0 m.start s None e (ap (λ (o : Option S). on o (run m (0 + length a + 1) rest)) f) in
    let bad : Some read.end ≡ None = sym read.runs ∙ none in
    cc

longer : {S A : Type 0} (m : Reader S A) (Form : ℕ → List ℕ → A → Type 0) (Good : S → Type 0) → Recognizes m Form Good → (cell : List ℕ) (i k : ℕ) (s : S) → i < k → k ≤ length cell → run m 0 (take i cell) m.start ≡ Some s
    → m.next (0 + length (take i cell)) s (get_or cell i 0) ≡ None → Begins Form (take k cell) → ⊥
longer m Form Good r cell i k s lt le e f b =
    let long : length (take k cell) ≡ k = length-take-le k cell le in
    let parts : take k cell ≡ take i cell ++ (get_or cell i 0 ∷ drop (suc i) (take k cell)) =
    split (take k cell) i (omega arith) ∙ ap₂ (λ (t : List ℕ) (c : ℕ). t ++ (c ∷ drop (suc i) (take k cell))) (take-take i k cell (omega arith)) (get_or-take k cell i 0 lt) in
    let whole : take k cell ++ b.0 ≡ take i cell ++ (get_or cell i 0 ∷ (drop (suc i) (take k cell) ++ b.0)) =
    ap (λ (t : List ℕ). t ++ b.0) parts ∙ append_assoc (take i cell) (get_or cell i 0 ∷ drop (suc i) (take k cell)) b.0 in
    nowhere m Form Good r (take i cell) (drop (suc i) (take k cell) ++ b.0) (get_or cell i 0) s b.1 e f (rw whole at b.2)

order : (a b : ℕ) → (a ≤ b) ⊎ (b < a)
order a b = grind arith

-- the place where no text of the form goes on
pub stuck-refused : {S A : Type 0} (m : Reader S A) (Form : ℕ → List ℕ → A → Type 0) (Good : S → Type 0) → Recognizes m Form Good → (cell : List ℕ) (i : ℕ) (s : S) → i < length cell → run m 0 (take i cell) m.start ≡ Some s
    → m.next i s (get_or cell i 0) ≡ None → IsRefusedAt Form cell i
stuck-refused m Form Good r cell i s lt e f =
    let at : i ≡ 0 + length (take i cell) = omega (arith, length-take-le i cell (omega arith)) in
    let g : m.next (0 + length (take i cell)) s (get_or cell i 0) ≡ None = ap (λ (p : ℕ). m.next p s (get_or cell i 0)) (sym at) ∙ f in
    record {
      other = λ value h. nowhere m Form Good r (take i cell) (drop (suc i) cell) (get_or cell i 0) s value e g (rw (split cell i lt) at h);
      within = omega arith;
      begins = reads-begin m Form Good r (take i cell) s e;
      longest = λ k le b. elim (order k i) [ inl small ↦ small | inr large ↦ absurd (longer m Form Good r cell i k s large le e g b) ];
    }

-- or a cell that stops too soon
pub end-refused : {S A : Type 0} (m : Reader S A) (Form : ℕ → List ℕ → A → Type 0) (Good : S → Type 0) → Recognizes m Form Good → (cell : List ℕ) (s : S) → run m 0 cell m.start ≡ Some s
    → m.value s ≡ None → IsRefusedAt Form cell (length cell)
end-refused m Form Good r cell s e f = record {
  other = λ value h.
      let read = r.complete 0 cell value h in
      let ends : Some s ≡ Some read.end = sym e ∙ read.runs in
      let same : s ≡ read.end = cc in
      let bad : None ≡ Some value = sym f ∙ ap m.value same ∙ read.says in
      cc;
  within = omega arith;
  begins = rw (take_all (length cell) cell (omega arith)) (reads-begin m Form Good r cell s e);
  longest = λ k le b. le;
}

-- one byte on
pub run-more : {S A : Type 0} (m : Reader S A) (cell : List ℕ) (i : ℕ) (s t : S) → i < length cell → run m 0 (take i cell) m.start ≡ Some s → m.next i s (get_or cell i 0) ≡ Some t → run m 0 (take (i + 1) cell) m.start ≡ Some t
run-more {S = S} m cell i s t lt e f =
    let at : i ≡ 0 + length (take i cell) = omega (arith, length-take-le i cell (omega arith)) in
    let g : m.next (0 + length (take i cell)) s (get_or cell i 0) ≡ Some t = ap (λ (p : ℕ). m.next p s (get_or cell i 0)) (sym at) ∙ f in
    let byte : run m (0 + length (take i cell)) (get_or cell i 0 ∷ []) s ≡ Some t = ap (λ (o : Option S). on o (run m (0 + length (take i cell) + 1) [])) g in
    ap (λ (x : List ℕ). run m 0 x m.start) (take_more cell i 0 lt) ∙ run-then m (take i cell) (get_or cell i 0 ∷ []) 0 m.start s (Some t) e byte

-- whether a text is of the form
pub form-decided : {S A : Type 0} (m : Reader S A) (Form : ℕ → List ℕ → A → Type 0) (Good : S → Type 0) → Recognizes m Form Good → (cell : List ℕ) → ((value : A) × Form 0 cell value) ⊎ ((value : A) → Form 0 cell value → ⊥)
form-decided {S = S} {A = A} m Form Good r cell = by_run (run m 0 cell m.start) refl
  where
    by_value : (s : S) (o : Option A) → run m 0 cell m.start ≡ Some s → m.value s ≡ o → ((value : A) × Form 0 cell value) ⊎ ((value : A) → Form 0 cell value → ⊥)
    by_value s None e f = inr (end-refused m Form Good r cell s e f).other
    by_value s (Some value) e f = inl (value, r.sound 0 cell value (record { end = s; runs = e; says = f }))

    by_run : (o : Option S) → run m 0 cell m.start ≡ o → ((value : A) × Form 0 cell value) ⊎ ((value : A) → Form 0 cell value → ⊥)
    by_run None e = inr (λ value h. let read = r.complete 0 cell value h in let bad : Some read.end ≡ None = sym read.runs ∙ e in absurd cc)
    by_run (Some s) e = by_value s (m.value s) e refl

-- a place where nothing goes on
record Stuck {S A : Type 0} (m : Reader S A) (cell : List ℕ) : Type 0 where
  place : ℕ
  state : S
  within : place < length cell
  runs : run m 0 (take place cell) m.start ≡ Some state
  stops : m.next place state (get_or cell place 0) ≡ None

-- a cell is read up to some place, or it stops before
stuck-or-led : {S A : Type 0} (m : Reader S A) (cell : List ℕ) (i : ℕ) → i ≤ length cell → Stuck m cell ⊎ ((s : S) × (run m 0 (take i cell) m.start ≡ Some s))
stuck-or-led m cell zero le = inr (m.start, refl)
stuck-or-led {S = S} m cell (suc i) le = by_front (stuck-or-led m cell i (omega arith))
  where
    by_next : (s : S) (o : Option S) → run m 0 (take i cell) m.start ≡ Some s → m.next i s (get_or cell i 0) ≡ o → Stuck m cell ⊎ ((t : S) × (run m 0 (take (suc i) cell) m.start ≡ Some t))
    by_next s None e f = inl (record { place = i; state = s; within = omega arith; runs = e; stops = f })
    by_next s (Some t) e f =
        let more : run m 0 (take (i + 1) cell) m.start ≡ Some t = run-more m cell i s t (omega arith) e f in
        let next : i + 1 ≡ suc i = omega arith in
        inr (t, sym (ap (λ (k : ℕ). run m 0 (take k cell) m.start) next) ∙ more)

    by_front : Stuck m cell ⊎ ((s : S) × (run m 0 (take i cell) m.start ≡ Some s)) → Stuck m cell ⊎ ((t : S) × (run m 0 (take (suc i) cell) m.start ≡ Some t))
    by_front (inl stuck) = inl stuck
    by_front (inr led) = by_next led.0 (m.next i led.0 (get_or cell i 0)) led.1 refl

-- a text is of the form or refused at some place
pub form-or-refused : {S A : Type 0} (m : Reader S A) (Form : ℕ → List ℕ → A → Type 0) (Good : S → Type 0) → Recognizes m Form Good → (cell : List ℕ)
    → ((value : A) × Form 0 cell value) ⊎ ((place : ℕ) × IsRefusedAt Form cell place)
form-or-refused {S = S} {A = A} m Form Good r cell = by_front (stuck-or-led m cell (length cell) (omega arith))
  where
    by_value : (s : S) (o : Option A) → run m 0 cell m.start ≡ Some s → m.value s ≡ o → ((value : A) × Form 0 cell value) ⊎ ((place : ℕ) × IsRefusedAt Form cell place)
    by_value s None e f = inr (length cell, end-refused m Form Good r cell s e f)
    by_value s (Some value) e f = inl (value, r.sound 0 cell value (record { end = s; runs = e; says = f }))

    by_front : Stuck m cell ⊎ ((s : S) × (run m 0 (take (length cell) cell) m.start ≡ Some s)) → ((value : A) × Form 0 cell value) ⊎ ((place : ℕ) × IsRefusedAt Form cell place)
    by_front (inl stuck) = inr (stuck.place, stuck-refused m Form Good r cell stuck.place stuck.state stuck.within stuck.runs stuck.stops)
    by_front (inr led) =
        let whole : run m 0 cell m.start ≡ Some led.0 = sym (ap (λ (t : List ℕ). run m 0 t m.start) (take_all (length cell) cell (omega arith))) ∙ led.1 in
        by_value led.0 (m.value led.0) whole refl

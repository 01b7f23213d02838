-- Bytes have one event in each place.
use Rattle.std.proofs.Common.{◌≡◌, ◌∙◌, ◌<◌, ℕ, List, [], ◌∷◌, ◌++◌, length, arith, refl, sym, ap, ap₂, subst, append_assoc, inl, inr}
use Rattle.std.specs.Prelude.{◌⊎◌}
use Rattle.std.proofs.lemmas.List.{append-nil, length-append, append_cancel_left}
use Rattle.d_certline.specs.declared.event.Event.{Event}
use Rattle.d_certline.specs.declared.place.Place.{Place}
use Rattle.d_certline.specs.Lines.{Line, line_text, text_of}
use Rattle.d_certline.specs.Places.{after, Stand, first}
use Rattle.d_certline.specs.Events.{events}
use Rattle.d_certline.specs.Faults.{HasNoLf, IsEvent, HasEvents}
use Rattle.d_certline.proofs.FaultFacts.{next_line, front_line, no_line}
use Rattle.d_certline.proofs.LineFacts.{stood, stand_more, text_of-append, events-append}
use Rattle.d_certline.proofs.ShortFacts.{sound_short}
use Rattle.d_certline.proofs.SoundFacts.{IsSound, sound_first, sound_after}

-- one list begins with the other
abbrev pub Extends : List Line → List Line → Type 0
Extends ls ms = (more : List Line) × (ms ≡ ls ++ more)

-- of two readings of the same bytes one goes on the other
pub goes_on : (ls ms : List Line) (p a b : Place) (r s : List ℕ) → IsSound p → Stand p ls a → Stand p ms b → text_of ls ++ r ≡ text_of ms ++ s
    → Extends ls ms ⊎ Extends ms ls
goes_on [] ms p a b r s sound x y e = inl (ms, refl)
goes_on (l ∷ ls) [] p a b r s sound x y e = inr (l ∷ ls, refl)
goes_on (l ∷ ls) (m ∷ ms) p a b r s sound x y e =
    let t = stand_more p a l ls x in
    let w = stand_more p b m ms y in
    let both = next_line l m (text_of ls ++ r) (text_of ms ++ s) (sound_short p t.0 l sound t.1).0 (sound_short p w.0 m sound w.1).0 (sym (front_line l ls r) ∙ e ∙ front_line m ms s) in
    let same : w.0 ≡ t.0 = stood w.0 t.0 (sym w.1 ∙ ap (λ k. after p k) (sym both.0) ∙ t.1) in
    longer l m ls ms both.0 (goes_on ls ms t.0 a b r s (sound_after p t.0 l sound t.1) t.2 (subst (λ (c : Place). Stand c ms b) same w.2) both.1)
  where
    longer : (l m : Line) (ls ms : List Line) → l ≡ m → Extends ls ms ⊎ Extends ms ls → Extends (l ∷ ls) (m ∷ ms) ⊎ Extends (m ∷ ms) (l ∷ ls)
    longer l m ls ms e (inl h) = inl (h.0, ap₂ (λ (k : Line) (ks : List Line). k ∷ ks) (sym e) h.1)
    longer l m ls ms e (inr h) = inr (h.0, ap₂ (λ (k : Line) (ks : List Line). k ∷ ks) e h.1)

-- two lists that are one have one thing in each place
pub at_place : (xs ys : List Event) (e f : Event) (more rest : List Event) → length xs ≡ length ys → xs ++ e ∷ more ≡ ys ++ f ∷ rest → e ≡ f
at_place [] [] e f more rest long same = cc
at_place [] (y ∷ ys) e f more rest long same = absurd (omega arith)
at_place (x ∷ xs) [] e f more rest long same = absurd (omega arith)
at_place (x ∷ xs) (y ∷ ys) e f more rest long same =
    let tail : xs ++ e ∷ more ≡ ys ++ f ∷ rest = cc in
    at_place xs ys e f more rest (omega arith) tail

-- the events of lines that go on
events_extend : (ls ms : List Line) (before : List Event) (e : Event) (behind : List Event) → Extends ls ms → events ls ≡ before ++ e ∷ behind
    → (more : List Event) × (events ms ≡ before ++ e ∷ more)
events_extend ls ms before e behind h is =
    (behind ++ events h.0, ap events h.1 ∙ events-append ls h.0 ∙ ap (λ es. es ++ events h.0) is ∙ append_assoc before (e ∷ behind) (events h.0))

one_extends : (ls ms : List Line) (k : ℕ) (before others : List Event) (e f : Event) (behind rest : List Event) → Extends ls ms
    → events ls ≡ before ++ e ∷ behind → events ms ≡ others ++ f ∷ rest → length before ≡ k → length others ≡ k → e ≡ f
one_extends ls ms k before others e f behind rest h x y m n =
    let longer = events_extend ls ms before e behind h x in
    at_place before others e f longer.0 rest (m ∙ sym n) (sym longer.1 ∙ y)

pub event_one : (bytes : List ℕ) (k : ℕ) (e f : Event) → IsEvent bytes k e → IsEvent bytes k f → e ≡ f
event_one bytes k e f x y =
    elim (goes_on x.lines y.lines first x.place y.place x.rest y.rest sound_first x.divides.stand y.divides.stand (sym x.divides.parts ∙ y.divides.parts)) [
      | inl h ↦ one_extends x.lines y.lines k x.before y.before e f x.behind y.behind h x.stands_there y.stands_there x.so_many y.so_many
      | inr h ↦ sym (one_extends y.lines x.lines k y.before x.before f e y.behind x.behind h y.stands_there x.stands_there y.so_many x.so_many)
    ]

-- lines with an event have more than those before it
more_events : (k : ℕ) (before behind : List Event) (e : Event) → length before ≡ k → k < length (before ++ e ∷ behind)
more_events k before behind e long = omega (arith, length-append before (e ∷ behind))

-- no whole line comes behind those of which the rest is a part of a line
all_whole : (ls more : List Line) (r s : List ℕ) → HasNoLf r → text_of ls ++ r ≡ text_of (ls ++ more) ++ s → more ≡ []
all_whole ls [] r s none e = refl
all_whole ls (m ∷ more) r s none e =
    let here : r ≡ text_of (m ∷ more) ++ s = append_cancel_left (text_of ls) r (text_of (m ∷ more) ++ s)
    (e ∙ ap (λ t. t ++ s) (text_of-append ls (m ∷ more)) ∙ append_assoc (text_of ls) (text_of (m ∷ more)) s) in
    absurd (no_line (line_text m) (text_of more ++ s) r none (here ∙ front_line m more s))

pub event_none : (bytes : List ℕ) (k : ℕ) (e : Event) → HasEvents bytes k → IsEvent bytes k e → ⊥
event_none bytes k e x y =
    elim (goes_on x.lines y.lines first x.place y.place x.rest y.rest sound_first x.divides.stand y.divides.stand (sym x.divides.parts ∙ y.divides.parts)) [
      | inl h ↦ fewer h
      | inr h ↦ more h
    ]
  where
    fewer : Extends x.lines y.lines → ⊥
    fewer h =
        let none = all_whole x.lines h.0 x.rest y.rest x.part (sym x.divides.parts ∙ y.divides.parts ∙ ap (λ ls. text_of ls ++ y.rest) h.1) in
        let same : y.lines ≡ x.lines = h.1 ∙ ap (λ ls. x.lines ++ ls) none ∙ append-nil x.lines in
        let long = more_events k y.before y.behind e y.so_many in
        omega (arith, x.so_many, ap (λ ls. length (events ls)) same, ap length y.stands_there)

    more : Extends y.lines x.lines → ⊥
    more h =
        let there = events_extend y.lines x.lines y.before e y.behind h y.stands_there in
        let long = more_events k y.before there.0 e y.so_many in
        omega (arith, x.so_many, ap length there.1)

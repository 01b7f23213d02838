-- Lines, their texts and where they stand.
use Rattle.std.proofs.Common.{◌≡◌, ◌∙◌, List, [], ◌∷◌, ◌++◌, refl, sym, ap, subst, append_assoc}
use Rattle.std.specs.List.{flat_map}
use Rattle.std.proofs.lemmas.List.{append-nil}
use Rattle.d_certline.specs.declared.place.Place.{Place}
use Rattle.d_certline.specs.declared.place.Stage.{Stage}
use Rattle.d_certline.specs.Lines.{Line, line_text, text_of, word, parts, spaced}
use Rattle.d_certline.specs.Places.{stands, after, after_at, Stand}
use Rattle.d_certline.specs.Events.{events, events_of}

-- what is said of a line is said by its stage
pub after_is : (s : Stage) (p : Place) (l : Line) → p.stage ≡ s → after p l ≡ after_at s p l
unfolding after
after_is s p l e = ap (λ t. after_at t p l) e

-- a line's text by its parts
pub text_is : (l : Line) → line_text l ≡ word l ++ flat_map spaced (parts l)
unfolding line_text
text_is l = refl

-- one judgement is one place
pub stood : (p q : Place) → stands p ≡ stands q → p ≡ q
stood p q e = cc

-- the texts of lines behind one another
pub text_of-none : text_of [] ≡ []
unfolding text_of
text_of-none = refl

pub text_of-more : (l : Line) (ls : List Line) → text_of (l ∷ ls) ≡ line_text l ++ 10 ∷ text_of ls
unfolding text_of
text_of-more l ls = refl

pub text_of-append : (ls ms : List Line) → text_of (ls ++ ms) ≡ text_of ls ++ text_of ms
unfolding text_of
text_of-append [] ms = refl
text_of-append (l ∷ ls) ms =
    ap (λ rest. line_text l ++ 10 ∷ rest) (text_of-append ls ms) ∙ sym (append_assoc (line_text l) (10 ∷ text_of ls) (text_of ms))

pub text_of-push : (ls : List Line) (l : Line) → text_of (ls ++ l ∷ []) ≡ text_of ls ++ (line_text l ++ 10 ∷ [])
unfolding text_of
text_of-push ls l = text_of-append ls (l ∷ [])

-- their events
pub events-none : events [] ≡ []
unfolding events
events-none = refl

pub events-more : (l : Line) (ls : List Line) → events (l ∷ ls) ≡ events_of l ++ events ls
unfolding events
events-more l ls = refl

pub events-append : (ls ms : List Line) → events (ls ++ ms) ≡ events ls ++ events ms
unfolding events
events-append [] ms = refl
events-append (l ∷ ls) ms = ap (λ rest. events_of l ++ rest) (events-append ls ms) ∙ sym (append_assoc (events_of l) (events ls) (events ms))

pub events-push : (ls : List Line) (l : Line) → events (ls ++ l ∷ []) ≡ events ls ++ events_of l
unfolding events
events-push ls l = events-append ls (l ∷ []) ∙ ap (λ rest. events ls ++ rest) (append-nil (events_of l))

-- where they stand
pub stand_none : (p q : Place) → Stand p [] q → p ≡ q
unfolding Stand
stand_none p q e = e

pub stand_more : (p q : Place) (l : Line) (ls : List Line) → Stand p (l ∷ ls) q → (m : Place) × (after p l ≡ stands m) × Stand m ls q
unfolding Stand
stand_more p q l ls s = s

pub stand_cons : (p m q : Place) (l : Line) (ls : List Line) → after p l ≡ stands m → Stand m ls q → Stand p (l ∷ ls) q
unfolding Stand
stand_cons p m q l ls e s = (m, e, s)

pub Stand-nil : (p : Place) → Stand p [] p
unfolding Stand
Stand-nil p = refl

pub Stand-append : (ls ms : List Line) (p m q : Place) → Stand p ls m → Stand m ms q → Stand p (ls ++ ms) q
unfolding Stand
Stand-append [] ms p m q s t = subst (λ (r : Place). Stand r ms q) (sym s) t
Stand-append (l ∷ ls) ms p m q s t = (s.0, s.1, Stand-append ls ms s.0 m q s.2 t)

pub Stand-push : (ls : List Line) (l : Line) (p m q : Place) → Stand p ls m → after m l ≡ stands q → Stand p (ls ++ l ∷ []) q
unfolding Stand
Stand-push ls l p m q s e = Stand-append ls (l ∷ []) p m q s (q, e, refl)

-- lines that stand are those in front and those behind
pub Stand-split : (ls ms : List Line) (p q : Place) → Stand p (ls ++ ms) q → (m : Place) × Stand p ls m × Stand m ms q
unfolding Stand
Stand-split [] ms p q s = (p, refl, s)
Stand-split (l ∷ ls) ms p q s = let rest = Stand-split ls ms s.0 q s.2 in (rest.0, (s.0, s.1, rest.1), rest.2)
